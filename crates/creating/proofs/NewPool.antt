-- Every slot of a new pool is marked as free and every other word is zero, so it holds the cache with nothing in it; and
-- the three answers of a creation exclude each other, so that creation is deterministic.
use mathlib.Core.Path.{◌≡◌, refl, sym, ap, ◌∙◌, subst}
use mathlib.Core.List.{List, [], ◌∷◌, ◌++◌, append-nil}
use mathlib.Core.Option.{Option, some, some-injective}
use Prim.Native.Nat.{ℕ, zero, suc, ◌+◌, ◌*◌, ◌-◌, ◌/◌, ◌%◌, ◌^◌, ◌≤◌, ◌<◌}
use native.Mathlib.Nat.{not-suc-le-zero}
use native.Mathlib.Decide.{ℕ_discrete}
use native.Mathlib.Omega.{arith}
use lib.Pow.{pow_pos, ones_lt, shr_lt}
use lib.ListN.{length, get_or, set, drop, replicate, length-map, length-append, length-replicate, length-set, get_or-replicate, length-drop, get_or-append}
use lib.Seq.{get_or-append-add}
use borrow.Author.Fill.{fill_none, fill_more}
use Rattle.page.specs.Cache.{max_slots, created}
use Rattle.page.specs.declared.cache.PageCache.{PageCache}
use Rattle.page.specs.declared.entry.PageCacheEntry.{PageCacheEntry}
use Rattle.ring_links.specs.Links.{RingOf}
use Rattle.free_marks.specs.Marks.{bit_at}
use Rattle.pool.specs.Slots.{blank, decode, entries}
use Rattle.ring_links.proofs.Columns.{next_at_lem, prev_at_lem}
use Rattle.free_marks.proofs.Digits.{digit, digit_shifted, digit_of_none, not_digit}
use Rattle.free_marks.proofs.Marking.{bit_past, shifted}
use Rattle.sorted_index.specs.Listed.{Listed}
use Rattle.sorted_index.proofs.Ascending.{index_places}
use Rattle.model.specs.Cache.{fresh}
use Rattle.memory.specs.Memory.{Memory}
use Rattle.memory.specs.Holds.{Holds}
use Rattle.soundness.specs.Checks.{Agreeing, MarksFit}
use Rattle.creating.specs.Creation.{Creation, last_marks, free_marks, fresh_memory, CreatedWell, code_of, head_of, Given, done, too_large, bad_lengths, Creates}
use Rattle.std.specs.Prelude.{Ok, Err}
use Rattle.creating.specs.declared.creating.CreationError.TheVariants.{BadLengths, TooLarge}

-- ── a loop that fills a slice ────────────────────────────────────────────────
-- the first i places hold x, and the others what they held
pub record Filling (old : List ℕ) (x : ℕ) (l : List ℕ) (i : ℕ) : Type 0 where
  pub same : l ≡ replicate i x ++ drop i old
  pub long : length l ≡ length old
  pub within : i ≤ length old

pub filling_none : {old : List ℕ} {x : ℕ} → Filling old x old 0
filling_none {old} {x} = record { same = fill_none old x; long = refl; within = omega arith }

module _ {old : List ℕ} {x : ℕ} {l : List ℕ} {i : ℕ} (f : Filling old x l i) where
  pub filling_more : i < length l → Filling old x (set l i x) (i + 1)
  filling_more h = record {
    same = ap (λ (z : List ℕ). set z i x) f.same ∙ fill_more i x old (omega (arith, f.long));
    long = length-set l i x ∙ f.long;
    within = omega (arith, f.long);
  }

  pub filling_all : length l ≤ i → l ≡ replicate (length old) x
  filling_all h =
      let whole : i ≡ length old = omega (arith, f.long, f.within) in
      f.same ∙ ap (λ (r : List ℕ). replicate i x ++ r) (nothing (drop i old) (omega (arith, length-drop i old))) ∙ append-nil (replicate i x)
      ∙ ap (λ (n : ℕ). replicate n x) whole
    where
      nothing : (r : List ℕ) → length r ≡ 0 → r ≡ []
      nothing [] e = refl
      nothing (y ∷ r) e = absurd (omega arith)

-- ── the marks of a new pool ──────────────────────────────────────────────────
ones_below : (d i : ℕ) → i < d → digit (2 ^ d - 1) i ≡ 1
ones_below d i h =
    let q : 2 ^ d - 1 - 0 ≡ 2 ^ d - 1 = omega arith in
    ap (λ (x : ℕ). digit x i) (sym q) ∙ not_digit d 0 i (pow_pos d) h ∙ ap (λ (x : ℕ). 1 - x) (digit_of_none i)

ones_above : (d i : ℕ) → d ≤ i → digit (2 ^ d - 1) i ≡ 0
ones_above d i h =
    let q : d + (i - d) ≡ i = omega arith in
    ap (digit (2 ^ d - 1)) (sym q) ∙ sym (digit_shifted (2 ^ d - 1) d (i - d)) ∙ ap (λ (x : ℕ). digit x (i - d)) shifted_out ∙ digit_of_none (i - d)
  where
    below_one : {x : ℕ} → x < 1 → x ≡ 0
    below_one h = omega arith

    shifted_out : (2 ^ d - 1) / 2 ^ d ≡ 0
    shifted_out = let z : 0 + d ≡ d = omega arith in below_one (shr_lt 0 d (rw z (ones_lt d)))

last_word : (b : ℕ) → get_or (last_marks b) 0 0 ≡ 2 ^ b - 1
last_word zero = refl
last_word (suc b) = refl

last_long : (b : ℕ) → b < 64 → length (last_marks b) ≡ (b + 63) / 64
last_long zero h = refl
last_long (suc b) h = omega arith

module _ (size : ℕ) where
  abbrev whole : List ℕ
  whole = replicate (size / 64) (2 ^ 64 - 1)

  whole_long : length whole ≡ size / 64
  whole_long = length-replicate (size / 64) (2 ^ 64 - 1)

  pub free_long : length (free_marks size) ≡ (size + 63) / 64
  unfolding free_marks
  free_long = length-append whole (last_marks (size % 64)) ∙ omega (arith, whole_long, last_long (size % 64) (omega arith))

  word_whole : (w : ℕ) → w < size / 64 → get_or (free_marks size) w 0 ≡ 2 ^ 64 - 1
  unfolding free_marks
  word_whole w h = get_or-append whole (last_marks (size % 64)) 0 w (omega (arith, whole_long)) ∙ get_or-replicate (size / 64) w (2 ^ 64 - 1) 0 h

  word_last : get_or (free_marks size) (size / 64) 0 ≡ 2 ^ (size % 64) - 1
  unfolding free_marks
  word_last =
      let e : size / 64 ≡ length whole + 0 = omega (arith, whole_long) in
      ap (λ (w : ℕ). get_or (free_marks size) w 0) e ∙ get_or-append-add whole (last_marks (size % 64)) 0 0 ∙ last_word (size % 64)

  bit_inside : (k : ℕ) → k < size → bit_at (free_marks size) k ≡ 1
  bit_inside k h = go (ℕ_discrete (k / 64) (size / 64))
    where
      go : Dec (k / 64 ≡ size / 64) → bit_at (free_marks size) k ≡ 1
      go (yes e) = ap (λ (w : ℕ). digit (get_or (free_marks size) w 0) (k % 64)) e ∙ ap (λ (x : ℕ). digit x (k % 64)) word_last ∙ ones_below (size % 64) (k % 64) (omega arith)
      go (no ne) = ap (λ (x : ℕ). digit x (k % 64)) (word_whole (k / 64) (omega arith)) ∙ ones_below 64 (k % 64) (omega arith)

  bit_beyond : (k : ℕ) → size ≤ k → bit_at (free_marks size) k ≡ 0
  bit_beyond k h = go (ℕ_discrete (k / 64) (size / 64))
    where
      go : Dec (k / 64 ≡ size / 64) → bit_at (free_marks size) k ≡ 0
      go (yes e) = ap (λ (w : ℕ). digit (get_or (free_marks size) w 0) (k % 64)) e ∙ ap (λ (x : ℕ). digit x (k % 64)) word_last ∙ ones_above (size % 64) (k % 64) (omega arith)
      go (no ne) = bit_past (free_marks size) k (omega (arith, free_long))

-- so 1 can be subtracted from what the code shifts
pub shifted_some : (b : ℕ) → b < 64 → 1 ≤ 1 * 2 ^ b % 2 ^ 64
shifted_some b h = rw (shifted b h) (pow_pos b)

-- what the code writes: all words full, and then the last one cut, if it is used in part
module _ {m : List ℕ} {size : ℕ} (fit : MarksFit m size) {full : List ℕ} (filled : full ≡ replicate (length m) (2 ^ 64 - 1)) where
  full_long : length full ≡ (size + 63) / 64
  full_long = ap length filled ∙ length-replicate (length m) (2 ^ 64 - 1) ∙ fit.words

  pub marks_whole : length full ≤ size / 64 → full ≡ free_marks size
  unfolding free_marks
  marks_whole h =
      let n : length m ≡ size / 64 = omega (arith, full_long, fit.words) in
      let b : size % 64 ≡ 0 = omega (arith, full_long) in
      filled ∙ ap (λ (k : ℕ). replicate k (2 ^ 64 - 1)) n ∙ sym (append-nil _) ∙ ap (λ (k : ℕ). whole size ++ last_marks k) (sym b)

  pub marks_cut : size / 64 < length full → set full (size / 64) (1 * 2 ^ (size % 64) % 2 ^ 64 - 1) ≡ free_marks size
  unfolding free_marks
  marks_cut h =
      let n : length m ≡ suc (size / 64) = omega (arith, full_long, fit.words) in
      ap (λ (l : List ℕ). set l (size / 64) (1 * 2 ^ (size % 64) % 2 ^ 64 - 1)) (filled ∙ ap (λ (k : ℕ). replicate k (2 ^ 64 - 1)) n)
      ∙ set_last (size / 64) (2 ^ 64 - 1) (1 * 2 ^ (size % 64) % 2 ^ 64 - 1)
      ∙ ap (λ (x : ℕ). whole size ++ (x - 1) ∷ []) (shifted (size % 64) (omega arith))
      ∙ ap (λ (r : List ℕ). whole size ++ r) (cut (size % 64) (omega (arith, full_long)))
    where
      set_last : (n x y : ℕ) → set (replicate (suc n) x) n y ≡ replicate n x ++ y ∷ []
      set_last zero x y = refl
      set_last (suc n) x y = ap (λ (r : List ℕ). x ∷ r) (set_last n x y)

      cut : (b : ℕ) → 0 < b → (2 ^ b - 1) ∷ [] ≡ last_marks b
      cut zero h = absurd (not-suc-le-zero h)
      cut (suc b) h = refl

-- ── a new pool holds nothing ─────────────────────────────────────────────────
blank_entries : (n : ℕ) → entries (replicate (4 * n) 0) ≡ replicate n blank
unfolding entries decode blank
blank_entries zero = refl
blank_entries (suc n) = let q : 4 * suc n ≡ suc (suc (suc (suc (4 * n)))) = omega arith in rw q (ap (λ (r : List PageCacheEntry). blank ∷ r) (blank_entries n))

get_or_same : {A : Type 0} (n k : ℕ) (a : A) → get_or (replicate n a) k a ≡ a
get_or_same zero k a = refl
get_or_same (suc n) zero a = refl
get_or_same (suc n) (suc k) a = get_or_same n k a

module _ (size capacity : ℕ) (some : 1 ≤ size) (most : size ≤ max_slots) (within : capacity ≤ size) where
  abbrev es : List PageCacheEntry
  es = entries (replicate (4 * size) 0)

  all_blank : (k : ℕ) → get_or es k blank ≡ blank
  all_blank k = ap (λ (l : List PageCacheEntry). get_or l k blank) (blank_entries size) ∙ get_or_same size k blank

  ring : RingOf es []
  unfolding blank
  ring = record {
    same = length-map es (λ (e : PageCacheEntry). e.prev.0) ∙ sym (length-map es (λ (e : PageCacheEntry). e.next.0));
    apart = tt;
    inside = tt;
    round = tt;
    free_next = λ k _. next_at_lem es k ∙ ap (λ (e : PageCacheEntry). e.next.0) (all_blank k);
    free_prev = λ k _. prev_at_lem es k ∙ ap (λ (e : PageCacheEntry). e.prev.0) (all_blank k);
  }

  spare : (k : ℕ) → (get_or es k blank).spare ≡ 0
  unfolding blank
  spare k = ap (λ (e : PageCacheEntry). e.spare) (all_blank k)

  none_listed : (col : List ℕ) → Listed col (replicate size 0) []
  none_listed col = record {
    index = index_places col (replicate size 0) 0 (omega arith) (λ i h. absurd (not-suc-le-zero h)) (λ i h. absurd (not-suc-le-zero h))
        (λ i g h. get_or-replicate size i 0 0 (omega (arith, length-replicate {A = ℕ} size 0)));
    same = λ k. refl;
  }

  pub fresh_holds : Holds (fresh_memory size) (created capacity) (fresh size capacity)
  fresh_holds = record {
    seats = [];
    lengths = record { slots = length-replicate (4 * size) 0; by_key = length-replicate size 0; by_handle = length-replicate size 0; marks = free_long size };
    seated = record { ring = ring; vacant = λ k _. all_blank k; spare = spare };
    row = refl;
    keys = none_listed _;
    handles = none_listed _;
    marked = record { inside = bit_inside size; beyond = bit_beyond size };
    headed = record { held = refl; hand = refl; capacity = refl; spill = refl; estimate = refl };
    limits = record { some = some; most = most; capacity = within; good = tt };
  }

-- ── the answers ──────────────────────────────────────────────────────────────
-- the four parts after the stores, and the head
pub created_well : {m m' : Memory} {capacity : ℕ} {head : PageCache} → Agreeing m → capacity ≤ length m.by_key
    → m'.slots ≡ replicate (length m.slots) 0 → m'.by_key ≡ replicate (length m.by_key) 0
    → m'.by_handle ≡ replicate (length m.by_handle) 0 → m'.marks ≡ free_marks (length m.by_key) → head ≡ created capacity
    → CreatedWell m capacity head m'
created_well {m} {m'} {capacity} {head} a within slots keys handles marks new =
    let memory : m' ≡ fresh_memory (length m.by_key) = λ i. record {
      slots = (slots ∙ ap (λ (n : ℕ). replicate n 0) a.lengths.slots) i;
      by_key = keys i;
      by_handle = (handles ∙ ap (λ (n : ℕ). replicate n 0) a.lengths.by_handle) i;
      marks = marks i;
    } in
    record {
      lengths = a;
      within = within;
      new = new;
      memory = memory;
      holds = subst (λ (h : PageCache). Holds m' h (fresh (length m.by_key) capacity)) (sym new)
          (subst (λ (x : Memory). Holds x (created capacity) (fresh (length m.by_key) capacity)) (sym memory)
          (fresh_holds (length m.by_key) capacity a.some a.most within));
    }

-- the number and the head determine the answer
answer_told : (r r' : Creation) → code_of r ≡ code_of r' → head_of r ≡ head_of r' → r ≡ r'
answer_told (Ok h) (Ok h') code head = ap Ok (some-injective h h' head)
answer_told (Ok h) (Err BadLengths) code head = absurd (omega (arith, code))
answer_told (Ok h) (Err TooLarge) code head = absurd (omega (arith, code))
answer_told (Err BadLengths) (Ok h') code head = absurd (omega (arith, code))
answer_told (Err BadLengths) (Err BadLengths) code head = refl
answer_told (Err BadLengths) (Err TooLarge) code head = absurd (omega (arith, code))
answer_told (Err TooLarge) (Ok h') code head = absurd (omega (arith, code))
answer_told (Err TooLarge) (Err BadLengths) code head = absurd (omega (arith, code))
answer_told (Err TooLarge) (Err TooLarge) code head = refl

-- creation is deterministic: one outcome for one memory and one capacity
pub record SameCreation (r : Creation) (m : Memory) (r' : Creation) (m' : Memory) : Type 0 where
  pub answer : r ≡ r'
  pub memory : m ≡ m'

pub created_same : (m : Memory) (capacity : ℕ) (r r' : Creation) (n n' : Memory) → Creates m capacity r n → Creates m capacity r' n' → SameCreation r n r' n'
created_same m capacity r r' n n' p q =
    let same : (code_of r ≡ code_of r') × (head_of r ≡ head_of r') × (n ≡ n') = given_same p q in
    record { answer = answer_told r r' same.0 same.1; memory = same.2 }
  where
    given_same : {code code' : ℕ} {head head' : Option PageCache} → Given m capacity n code head → Given m capacity n' code' head'
        → (code ≡ code') × (head ≡ head') × (n ≡ n')
    given_same (done p) (done q) = (refl, ap some (p.new ∙ sym q.new), p.memory ∙ sym q.memory)
    given_same (done p) (too_large q) = absurd (omega (arith, p.within, q.above))
    given_same (done p) (bad_lengths q) = absurd (q.lengths p.lengths)
    given_same (too_large p) (done q) = absurd (omega (arith, q.within, p.above))
    given_same (too_large p) (too_large q) = (refl, refl, p.memory ∙ sym q.memory)
    given_same (too_large p) (bad_lengths q) = absurd (q.lengths p.lengths)
    given_same (bad_lengths p) (done q) = absurd (p.lengths q.lengths)
    given_same (bad_lengths p) (too_large q) = absurd (p.lengths q.lengths)
    given_same (bad_lengths p) (bad_lengths q) = (refl, refl, p.memory ∙ sym q.memory)
