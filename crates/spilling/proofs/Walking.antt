-- A loop over the index meets the pages of the walk over keys one after another, and so counts those that pass a test. It stays
-- within the index, and at its end it has met every page.
use mathlib.Core.Path.{◌≡◌, sym, ap, ◌∙◌}
use mathlib.Core.Bool.{Bool, true, false}
use mathlib.Core.List.{List, [], ◌∷◌}
use Prim.Native.Nat.{ℕ, ◌+◌, ◌≤◌, ◌<◌}
use native.Mathlib.Omega.{arith}
use lib.ListN.{length, get_or, take, length-append}
use lib.Seq.{length-take-le}
use Rattle.std.proofs.lemmas.List.{get_or-take}
use Rattle.page.specs.declared.cache.PageCache.{PageCache}
use Rattle.page.specs.declared.entry.PageCacheEntry.{PageCacheEntry}
use Rattle.pool.specs.Slots.{blank, entries}
use Rattle.model.specs.Cache.{Cache}
use Rattle.model.specs.Row.{Page, Row, sorted_by_key, those}
use Rattle.memory.specs.Memory.{Memory}
use Rattle.memory.specs.Holds.{seen, Holds}
use Rattle.memory.specs.Walk.{walk}
use Rattle.memory.proofs.Walks.{walk_at, walk_by_key, walk_fits, walked_none, walked_one, walked_past}
use Rattle.spilling.specs.Parts.{PartsOfSound}
use Rattle.spilling.proofs.Counts.{by_key_count}

-- ── what is read ─────────────────────────────────────────────────────────────
module _ {slots by_key : List ℕ} {held : ℕ} (r : PartsOfSound slots by_key held) where
  -- the index has a place for each held page
  pub readable_fits : held ≤ length by_key
  readable_fits = omega (arith, walk_fits r.sound.holds, r.same)

  -- a loop over those places
  pub turns : length (take held by_key) ≡ held
  turns = length-take-le held by_key readable_fits

  module _ {i : ℕ} (turn : i < length (take held by_key)) where
    pub turn_within : i < held
    turn_within = omega (arith, turns)

    turn_slot : get_or (take held by_key) i 0 ≡ get_or by_key i 0
    turn_slot = get_or-take held by_key i 0 turn_within

    pub turn_loads : {e : PageCacheEntry} → e ≡ get_or (entries slots) (get_or (take held by_key) i 0) blank → e ≡ get_or (entries slots) (get_or by_key i 0) blank
    turn_loads loaded = rw turn_slot at loaded

-- ── the walk, place by place ─────────────────────────────────────────────────
-- `count` of the first i pages of the walk pass the test
pub record Met (test : Page → Bool) (slots by_key : List ℕ) (held i count : ℕ) : Type 0 where
  pub within : i ≤ held
  pub number : count ≡ length (those test (walk slots by_key i))
  pub upto : count ≤ i

pub met_none : (test : Page → Bool) (slots by_key : List ℕ) (held : ℕ) → Met test slots by_key held 0 0
met_none test slots by_key held = record {
  within = omega arith;
  number = sym (ap length (walked_none test slots by_key));
  upto = omega arith;
}

-- the page of an entry that was loaded from the slot s
abbrev pub page_of : ℕ → PageCacheEntry → Page
page_of s e = (seen s e).page

-- it is the walk's, if the index has that slot
pub loaded_page : (slots by_key : List ℕ) (i : ℕ) {e : PageCacheEntry} → e ≡ get_or (entries slots) (get_or by_key i 0) blank
    → page_of (get_or by_key i 0) e ≡ (walk_at slots by_key i).page
loaded_page slots by_key i loaded = ap (page_of (get_or by_key i 0)) loaded

module _ {test : Page → Bool} {slots by_key : List ℕ} {held i count : ℕ} {e : PageCacheEntry} (r : PartsOfSound slots by_key held)
    (m : Met test slots by_key held i count) (more : i < held) (loaded : e ≡ get_or (entries slots) (get_or by_key i 0) blank) where
  -- the test of the page that was loaded is that of the walk's next
  judged : test (page_of (get_or by_key i 0) e) ≡ test (walk_at slots by_key i).page
  judged = ap test (loaded_page slots by_key i loaded)

  -- it is one of them
  pub met_one : {count' : ℕ} → test (page_of (get_or by_key i 0) e) ≡ true → count' ≡ count + 1 → Met test slots by_key held (i + 1) count'
  met_one q next = record {
    within = omega arith;
    number =
        next
        ∙ sym (ap length (walked_one test slots by_key i (omega (arith, readable_fits r)) (sym judged ∙ q))
        ∙ length-append (those test (walk slots by_key i)) ((walk_at slots by_key i).page ∷ [])
        ∙ ap (λ (n : ℕ). n + 1) (sym m.number));
    upto = omega (arith, m.upto);
  }

  -- it is not
  pub met_past : {count' : ℕ} → test (page_of (get_or by_key i 0) e) ≡ false → count' ≡ count → Met test slots by_key held (i + 1) count'
  met_past q same = record {
    within = omega arith;
    number = same ∙ m.number ∙ sym (ap length (walked_past test slots by_key i (omega (arith, readable_fits r)) (sym judged ∙ q)));
    upto = omega (arith, m.upto);
  }

-- ── the whole walk ───────────────────────────────────────────────────────────
module _ {m : Memory} {head : PageCache} {c : Cache} {held : ℕ} (g : Holds m head c) (same : head.held ≡ held) where
  -- it meets every page
  pub whole_walk : sorted_by_key c.row ≡ walk m.slots m.by_key held
  whole_walk = walk_by_key g ∙ ap (walk m.slots m.by_key) same

  -- and so the count is that of the row
  pub met_all : {test : Page → Bool} {i count : ℕ} → Met test m.slots m.by_key held i count → held ≤ i → count ≡ length (those test c.row)
  met_all {test} {i} t end =
      let last : i ≡ held = omega (arith, t.within) in
      t.number ∙ ap (λ (n : ℕ). length (those test (walk m.slots m.by_key n))) last
      ∙ ap (λ (row : Row). length (those test row)) (sym whole_walk) ∙ by_key_count test c.row
