-- Packing is a bijection: the fields of a word lie side by side, so that a quotient cuts off those below a field and a
-- remainder those above it.
use mathlib.Core.Path.{◌≡◌, refl, sym, ap, ◌∙◌}
use mathlib.Core.Bool.{◌&&◌}
use mathlib.Core.List.{List, [], ◌∷◌}
use Prim.Native.Nat.{ℕ, zero, suc, ◌+◌, ◌*◌, ◌/◌, ◌%◌, ◌^◌, ◌≤◌, ◌<◌}
use native.Mathlib.Nat.{not-suc-le-zero, le_of_suc-le-suc}
use native.Mathlib.Omega.{arith}
use lib.ListN.{length, get_or, set}
use lib.Dec.{eqb}
use Rattle.page.specs.declared.entry.PageCacheEntry.{PageCacheEntry}
use Rattle.pool.specs.Slots.{decode, blank, entries}
use Rattle.pool.specs.Decides.{Decides}
use Rattle.pool.proofs.Decides.{decides_eq, decides_as, decides_and}

-- ── slots and words ──────────────────────────────────────────────────────────
-- the words of a slot are there
pub entries_length : (l : List ℕ) → 4 * length (entries l) ≤ length l
unfolding entries
entries_length [] = omega arith
entries_length (a ∷ []) = omega arith
entries_length (a ∷ b ∷ []) = omega arith
entries_length (a ∷ b ∷ c ∷ []) = omega arith
entries_length (a ∷ b ∷ c ∷ d ∷ l) = omega (arith, entries_length l)

-- 4 * n words are n slots
pub entries_whole : (n : ℕ) (l : List ℕ) → length l ≡ 4 * n → length (entries l) ≡ n
unfolding entries
entries_whole zero [] p = refl
entries_whole zero (_ ∷ _) p = absurd (omega arith)
entries_whole (suc n) [] p = absurd (omega arith)
entries_whole (suc n) (_ ∷ []) p = absurd (omega arith)
entries_whole (suc n) (_ ∷ _ ∷ []) p = absurd (omega arith)
entries_whole (suc n) (_ ∷ _ ∷ _ ∷ []) p = absurd (omega arith)
entries_whole (suc n) (a ∷ b ∷ c ∷ d ∷ l) p = ap suc (entries_whole n l (omega arith))

-- the next slot's words are four places further on
further : (s i : ℕ) → suc s * 4 + i ≡ suc (suc (suc (suc (s * 4 + i))))
further s i = omega arith

further_first : (s : ℕ) → suc s * 4 ≡ suc (suc (suc (suc (s * 4))))
further_first s = omega arith

-- what a slot holds
pub entries_at : (l : List ℕ) (s : ℕ) → s < length (entries l)
    → get_or (entries l) s blank ≡ decode (get_or l (s * 4) 0) (get_or l (s * 4 + 1) 0) (get_or l (s * 4 + 2) 0) (get_or l (s * 4 + 3) 0)
unfolding entries
entries_at [] s h = absurd (not-suc-le-zero h)
entries_at (a ∷ []) s h = absurd (not-suc-le-zero h)
entries_at (a ∷ b ∷ []) s h = absurd (not-suc-le-zero h)
entries_at (a ∷ b ∷ c ∷ []) s h = absurd (not-suc-le-zero h)
entries_at (a ∷ b ∷ c ∷ d ∷ l) zero h = refl
entries_at (a ∷ b ∷ c ∷ d ∷ l) (suc s) h =
    rw (further s 1, further s 2, further s 3, further_first s) (entries_at l s (le_of_suc-le-suc h))

-- four words are stored
pub entries_set : (l : List ℕ) (s a b c d : ℕ) → s < length (entries l)
    → entries (set (set (set (set l (s * 4) a) (s * 4 + 1) b) (s * 4 + 2) c) (s * 4 + 3) d) ≡ set (entries l) s (decode a b c d)
unfolding entries
entries_set [] s a b c d h = absurd (not-suc-le-zero h)
entries_set (_ ∷ []) s a b c d h = absurd (not-suc-le-zero h)
entries_set (_ ∷ _ ∷ []) s a b c d h = absurd (not-suc-le-zero h)
entries_set (_ ∷ _ ∷ _ ∷ []) s a b c d h = absurd (not-suc-le-zero h)
entries_set (_ ∷ _ ∷ _ ∷ _ ∷ l) zero a b c d h = refl
entries_set (x ∷ y ∷ z ∷ w ∷ l) (suc s) a b c d h =
    rw (further s 1, further s 2, further s 3, further_first s)
    (ap {B = List PageCacheEntry} (λ (r : List PageCacheEntry). decode x y z w ∷ r) (entries_set l s a b c d (le_of_suc-le-suc h)))

-- ── the words of an entry ────────────────────────────────────────────────────
-- the fields of an entry fit their places
pub record Ranged (e : PageCacheEntry) : Type 0 where
  pub key : e.key.0 < 2 ^ 32
  pub handle : e.handle.0 < 2 ^ 32
  pub flags : e.page.flags < 2 ^ 8
  pub pins : e.page.pins < 2 ^ 16
  pub holders : e.page.holders < 2 ^ 16
  pub cells : e.page.cells < 2 ^ 8
  pub uses : e.uses < 2 ^ 8
  pub spare : e.spare < 2 ^ 8
  pub next : e.next.0 < 2 ^ 32
  pub prev : e.prev.0 < 2 ^ 32

abbrev pub names_word : PageCacheEntry → ℕ
names_word e = e.key.0 + e.handle.0 * 2 ^ 32

abbrev pub links_word : PageCacheEntry → ℕ
links_word e = e.next.0 + e.prev.0 * 2 ^ 32

abbrev pub counts_word : PageCacheEntry → ℕ
counts_word e = e.page.flags + e.uses * 2 ^ 8 + e.page.cells * 2 ^ 16 + e.spare * 2 ^ 24 + e.page.pins * 2 ^ 32 + e.page.holders * 2 ^ 48

-- ── a field is read back ─────────────────────────────────────────────────────
-- a field of 8 or of 16 bits, above what is lower and below what is higher
cut_uses : (lower field higher : ℕ) → lower < 2 ^ 8 → (lower + field * 2 ^ 8 + higher * 2 ^ 16) / 2 ^ 8 ≡ field + higher * 2 ^ 8
cut_uses lower field higher h = omega arith

cut_cells : (lower field higher : ℕ) → lower < 2 ^ 16 → (lower + field * 2 ^ 16 + higher * 2 ^ 24) / 2 ^ 16 ≡ field + higher * 2 ^ 8
cut_cells lower field higher h = omega arith

cut_spare : (lower field higher : ℕ) → lower < 2 ^ 24 → (lower + field * 2 ^ 24 + higher * 2 ^ 32) / 2 ^ 24 ≡ field + higher * 2 ^ 8
cut_spare lower field higher h = omega arith

cut_pins : (lower field higher : ℕ) → lower < 2 ^ 32 → (lower + field * 2 ^ 32 + higher * 2 ^ 48) / 2 ^ 32 ≡ field + higher * 2 ^ 16
cut_pins lower field higher h = omega arith

low_byte : (field higher : ℕ) → field < 2 ^ 8 → (field + higher * 2 ^ 8) % 2 ^ 8 ≡ field
low_byte field higher h = omega arith

low_pair : (field higher : ℕ) → field < 2 ^ 16 → (field + higher * 2 ^ 16) % 2 ^ 16 ≡ field
low_pair field higher h = omega arith

module _ (flags uses cells spare pins holders : ℕ) (f : flags < 2 ^ 8) (u : uses < 2 ^ 8) (c : cells < 2 ^ 8) (s : spare < 2 ^ 8) (p : pins < 2 ^ 16) where
  word : ℕ
  word = flags + uses * 2 ^ 8 + cells * 2 ^ 16 + spare * 2 ^ 24 + pins * 2 ^ 32 + holders * 2 ^ 48

  get_flags : word % 2 ^ 8 ≡ flags
  unfolding word
  get_flags =
      let e : word ≡ flags + (uses + cells * 2 ^ 8 + spare * 2 ^ 16 + pins * 2 ^ 24 + holders * 2 ^ 40) * 2 ^ 8 = omega arith in
      rw e (low_byte flags _ f)

  get_uses : word / 2 ^ 8 % 2 ^ 8 ≡ uses
  unfolding word
  get_uses =
      let e : word ≡ flags + uses * 2 ^ 8 + (cells + spare * 2 ^ 8 + pins * 2 ^ 16 + holders * 2 ^ 32) * 2 ^ 16 = omega arith in
      rw (e, cut_uses flags uses _ f) (low_byte uses _ u)

  get_cells : word / 2 ^ 16 % 2 ^ 8 ≡ cells
  unfolding word
  get_cells =
      let e : word ≡ flags + uses * 2 ^ 8 + cells * 2 ^ 16 + (spare + pins * 2 ^ 8 + holders * 2 ^ 24) * 2 ^ 24 = omega arith in
      rw (e, cut_cells (flags + uses * 2 ^ 8) cells _ (omega arith)) (low_byte cells _ c)

  get_spare : word / 2 ^ 24 % 2 ^ 8 ≡ spare
  unfolding word
  get_spare =
      let e : word ≡ flags + uses * 2 ^ 8 + cells * 2 ^ 16 + spare * 2 ^ 24 + (pins + holders * 2 ^ 16) * 2 ^ 32 = omega arith in
      rw (e, cut_spare (flags + uses * 2 ^ 8 + cells * 2 ^ 16) spare _ (omega arith)) (low_byte spare _ s)

  get_pins : word / 2 ^ 32 % 2 ^ 16 ≡ pins
  unfolding word
  get_pins = rw (cut_pins (flags + uses * 2 ^ 8 + cells * 2 ^ 16 + spare * 2 ^ 24) pins holders (omega arith)) (low_pair pins _ p)

  get_holders : word / 2 ^ 48 ≡ holders
  unfolding word
  get_holders = omega arith

module _ (e : PageCacheEntry) (r : Ranged e) where
  -- a law of the third word at the fields of the entry
  abbrev of_entry {ℓ} : {P : (f u c s p h : ℕ) → f < 2 ^ 8 → u < 2 ^ 8 → c < 2 ^ 8 → s < 2 ^ 8 → p < 2 ^ 16 → Type ℓ}
      → ((f u c s p h : ℕ) (rf : f < 2 ^ 8) (ru : u < 2 ^ 8) (rc : c < 2 ^ 8) (rs : s < 2 ^ 8) (rp : p < 2 ^ 16) → P f u c s p h rf ru rc rs rp)
      → P e.page.flags e.uses e.page.cells e.spare e.page.pins e.page.holders r.flags r.uses r.cells r.spare r.pins
  of_entry law = law e.page.flags e.uses e.page.cells e.spare e.page.pins e.page.holders r.flags r.uses r.cells r.spare r.pins

-- an entry comes back from its words
pub decode_encode : (e : PageCacheEntry) → Ranged e → decode (names_word e) (links_word e) (counts_word e) e.page.frame ≡ e
unfolding decode word
decode_encode e r =
    let key : names_word e % 2 ^ 32 ≡ e.key.0 = omega arith in
    let handle : names_word e / 2 ^ 32 ≡ e.handle.0 = omega arith in
    let next : links_word e % 2 ^ 32 ≡ e.next.0 = omega arith in
    let prev : links_word e / 2 ^ 32 ≡ e.prev.0 = omega arith in
    let flags : counts_word e % 2 ^ 8 ≡ e.page.flags = of_entry e r get_flags in
    let pins : counts_word e / 2 ^ 32 % 2 ^ 16 ≡ e.page.pins = of_entry e r get_pins in
    let holders : counts_word e / 2 ^ 48 ≡ e.page.holders = of_entry e r get_holders in
    let cells : counts_word e / 2 ^ 16 % 2 ^ 8 ≡ e.page.cells = of_entry e r get_cells in
    let uses : counts_word e / 2 ^ 8 % 2 ^ 8 ≡ e.uses = of_entry e r get_uses in
    let spare : counts_word e / 2 ^ 24 % 2 ^ 8 ≡ e.spare = of_entry e r get_spare in
    λ i. record {
      key = record { 0 = key i };
      handle = record { 0 = handle i };
      page = record { flags = flags i; pins = pins i; holders = holders i; cells = cells i; frame = e.page.frame };
      uses = uses i;
      spare = spare i;
      next = record { 0 = next i };
      prev = record { 0 = prev i };
    }

-- an entry is stored by its words
pub stored : (l : List ℕ) (s : ℕ) (e : PageCacheEntry) → s < length (entries l) → Ranged e
    → entries (set (set (set (set l (s * 4) (names_word e)) (s * 4 + 1) (links_word e)) (s * 4 + 2) (counts_word e)) (s * 4 + 3) e.page.frame) ≡ set (entries l) s e
stored l s e h r =
    entries_set l s (names_word e) (links_word e) (counts_word e) e.page.frame h
    ∙ ap {B = List PageCacheEntry} (set (entries l) s) (decode_encode e r)

-- ── the words come back from their entry ─────────────────────────────────────
from_uses : (c : ℕ) → c / 2 ^ 8 ≡ c / 2 ^ 8 % 2 ^ 8 + c / 2 ^ 16 * 2 ^ 8
from_uses c = omega arith

from_cells : (c : ℕ) → c / 2 ^ 16 ≡ c / 2 ^ 16 % 2 ^ 8 + c / 2 ^ 24 * 2 ^ 8
from_cells c = omega arith

from_spare : (c : ℕ) → c / 2 ^ 24 ≡ c / 2 ^ 24 % 2 ^ 8 + c / 2 ^ 32 * 2 ^ 8
from_spare c = omega arith

from_pins : (c : ℕ) → c / 2 ^ 32 ≡ c / 2 ^ 32 % 2 ^ 16 + c / 2 ^ 48 * 2 ^ 16
from_pins c = omega arith

joined : (word u c s p flags uses cells spare pins holders : ℕ)
    → word ≡ flags + u * 2 ^ 8 → u ≡ uses + c * 2 ^ 8 → c ≡ cells + s * 2 ^ 8 → s ≡ spare + p * 2 ^ 8 → p ≡ pins + holders * 2 ^ 16
    → flags + uses * 2 ^ 8 + cells * 2 ^ 16 + spare * 2 ^ 24 + pins * 2 ^ 32 + holders * 2 ^ 48 ≡ word
joined word u c s p flags uses cells spare pins holders q q₁ q₂ q₃ q₄ = omega arith

module _ (names links counts frame : ℕ) where
  names_back : names_word (decode names links counts frame) ≡ names
  unfolding decode
  names_back = omega arith

  links_back : links_word (decode names links counts frame) ≡ links
  unfolding decode
  links_back = omega arith

  counts_back : counts_word (decode names links counts frame) ≡ counts
  unfolding decode
  counts_back = joined counts _ _ _ _ _ _ _ _ _ _ (omega arith) (from_uses counts) (from_cells counts) (from_spare counts) (from_pins counts)

-- equal entries are of equal words
pub record SameWords (a b c d a' b' c' d' : ℕ) : Type 0 where
  pub names : a ≡ a'
  pub links : b ≡ b'
  pub counts : c ≡ c'
  pub frame : d ≡ d'

pub decode_once : {a b c d a' b' c' d' : ℕ} → decode a b c d ≡ decode a' b' c' d' → SameWords a b c d a' b' c' d'
unfolding decode
decode_once {a} {b} {c} {d} {a'} {b'} {c'} {d'} e = record {
  names = sym (names_back a b c d) ∙ ap names_word e ∙ names_back a' b' c' d';
  links = sym (links_back a b c d) ∙ ap links_word e ∙ links_back a' b' c' d';
  counts = sym (counts_back a b c d) ∙ ap counts_word e ∙ counts_back a' b' c' d';
  frame = ap (λ (q : PageCacheEntry). q.page.frame) e;
}

-- whole slots: equal entries have equal words
pub words_once : (n : ℕ) (l m : List ℕ) → length l ≡ 4 * n → length m ≡ 4 * n → entries l ≡ entries m → l ≡ m
unfolding entries
words_once zero [] [] p q e = refl
words_once zero [] (_ ∷ _) p q e = absurd (omega arith)
words_once zero (_ ∷ _) m p q e = absurd (omega arith)
words_once (suc n) [] m p q e = absurd (omega arith)
words_once (suc n) (_ ∷ []) m p q e = absurd (omega arith)
words_once (suc n) (_ ∷ _ ∷ []) m p q e = absurd (omega arith)
words_once (suc n) (_ ∷ _ ∷ _ ∷ []) m p q e = absurd (omega arith)
words_once (suc n) (_ ∷ _ ∷ _ ∷ _ ∷ l) [] p q e = absurd (omega arith)
words_once (suc n) (_ ∷ _ ∷ _ ∷ _ ∷ l) (_ ∷ []) p q e = absurd (omega arith)
words_once (suc n) (_ ∷ _ ∷ _ ∷ _ ∷ l) (_ ∷ _ ∷ []) p q e = absurd (omega arith)
words_once (suc n) (_ ∷ _ ∷ _ ∷ _ ∷ l) (_ ∷ _ ∷ _ ∷ []) p q e = absurd (omega arith)
words_once (suc n) (a ∷ b ∷ c ∷ d ∷ l) (a' ∷ b' ∷ c' ∷ d' ∷ m) p q e =
    let head : decode a b c d ≡ decode a' b' c' d' = cc in
    let tail : entries l ≡ entries m = cc in
    let same = decode_once head in
    let rest = words_once n l m (omega arith) (omega arith) tail in
    λ i. same.names i ∷ same.links i ∷ same.counts i ∷ same.frame i ∷ rest i

-- ── a slot of four zero words ────────────────────────────────────────────────
blank_is : blank ≡ decode 0 0 0 0
unfolding blank decode
blank_is = refl

module _ (l : List ℕ) (s : ℕ) (inside : s < length (entries l)) where
  zero_words : get_or (entries l) s blank ≡ blank → SameWords (get_or l (s * 4) 0) (get_or l (s * 4 + 1) 0) (get_or l (s * 4 + 2) 0) (get_or l (s * 4 + 3) 0) 0 0 0 0
  zero_words e = decode_once (sym (entries_at l s inside) ∙ e ∙ blank_is)

  pub blank_tested :
      Decides (((eqb (get_or l (s * 4) 0) 0 && eqb (get_or l (s * 4 + 1) 0) 0) && eqb (get_or l (s * 4 + 2) 0) 0) && eqb (get_or l (s * 4 + 3) 0) 0)
      (get_or (entries l) s blank ≡ blank)
  blank_tested = decides_as
      (decides_and (decides_and (decides_and (decides_eq _ _) (decides_eq _ _)) (decides_eq _ _)) (decides_eq _ _))
      (λ z. entries_at l s inside ∙ (λ i. decode (z.0.0.0 i) (z.0.0.1 i) (z.0.1 i) (z.1 i)) ∙ sym blank_is)
      (λ e. let z = zero_words e in (((z.names, z.links), z.counts), z.frame))
