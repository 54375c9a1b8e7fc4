-- What a walk has listed are the handles of the pages that it met and may be spilled; once there are enough of them, or the walk
-- has met every page, they are the selection.
use mathlib.Core.Path.{◌≡◌, refl, sym, ap, ◌∙◌}
use mathlib.Core.Bool.{true, false}
use mathlib.Core.List.{List, [], ◌∷◌, ◌++◌, map, map-append, append_assoc}
use Prim.Native.Nat.{ℕ, suc, ◌+◌, ◌≤◌, ◌<◌}
use native.Mathlib.Omega.{arith}
use lib.ListN.{length, get_or, take, drop, set, length-append, length-drop, length-map}
use lib.Seq.{take_all, take_at, drop-cons, set_at}
use Rattle.page.specs.declared.cache.PageCache.{PageCache}
use Rattle.page.specs.declared.entry.PageCacheEntry.{PageCacheEntry}
use Rattle.pool.specs.Slots.{blank, entries}
use Rattle.model.specs.Cache.{Cache}
use Rattle.model.specs.Row.{Page, Row, those}
use Rattle.model.specs.Spill.{page_spillable, selection}
use Rattle.memory.specs.Memory.{Memory}
use Rattle.memory.specs.Holds.{Holds}
use Rattle.memory.specs.Walk.{walk}
use Rattle.memory.proofs.Walks.{walk_at, walk_from, walked_none, walked_one, walked_past, walked_split}
use Rattle.answer.specs.Answer.{Wrote}
use Rattle.spilling.specs.Parts.{PartsOfSound, Selected}
use Rattle.spilling.proofs.Walking.{readable_fits, Met, met_none, page_of, loaded_page, met_one, met_past, whole_walk}

abbrev handles_of : List Page → List ℕ
handles_of pages = map (λ p. p.handle) pages

-- ── handles are listed ───────────────────────────────────────────────────────
-- one more, at the place after the last
wrote_more : {handles before after : List ℕ} {n : ℕ} (handle : ℕ) → Wrote handles before after → n ≡ length handles → n < length before
    → Wrote (handles ++ handle ∷ []) before (set after n handle)
wrote_more {handles} {before} {after} {n} handle w count h = record {
  list =
      ap (λ (l : List ℕ). set l n handle)
      (w.list ∙ ap {B = List ℕ} (λ (k : ℕ). handles ++ drop k before) (sym count)
      ∙ ap {B = List ℕ} (λ (l : List ℕ). handles ++ l) (drop-cons before n 0 h))
      ∙ set_at handles (get_or before n 0) (drop (suc n) before) handle n (sym count)
      ∙ sym (append_assoc handles (handle ∷ []) (drop (suc n) before))
      ∙ ap {B = List ℕ} (λ (k : ℕ). handles ++ (handle ∷ []) ++ drop k before) longer;
}
  where
    longer : suc n ≡ length (handles ++ handle ∷ [])
    longer = omega (arith, length-append handles (handle ∷ []))

wrote_length : {handles before after : List ℕ} → Wrote handles before after → length handles ≤ length before → length after ≡ length before
wrote_length {handles} {before} w h =
    ap length w.list ∙ length-append handles (drop (length handles) before)
    ∙ omega (arith, length-drop (length handles) before)

-- ── the walk, place by place ─────────────────────────────────────────────────
-- those of the first i pages of the walk that may be spilled
abbrev spillables : (slots by_key : List ℕ) → ℕ → List Page
spillables slots by_key i = those page_spillable (walk slots by_key i)

-- of the first i pages of the walk those that may be spilled are listed: `listed` pages, and at most `most`
pub record Selecting (slots by_key before : List ℕ) (held most i listed : ℕ) (after : List ℕ) : Type 0 where
  pub met : Met page_spillable slots by_key held i listed
  pub few : listed ≤ most
  pub wrote : Wrote (handles_of (spillables slots by_key i)) before after

pub selecting_none : (slots by_key list : List ℕ) (held most : ℕ) → Selecting slots by_key list held most 0 0 list
selecting_none slots by_key list held most = record {
  met = met_none page_spillable slots by_key held;
  few = omega arith;
  wrote = rw (walked_none page_spillable slots by_key) (record { list = refl });
}

module _ {slots by_key before after : List ℕ} {held most i listed : ℕ} (s : Selecting slots by_key before held most i listed after) where
  selecting_count : listed ≡ length (handles_of (spillables slots by_key i))
  selecting_count = s.met.number ∙ sym (length-map (spillables slots by_key i) (λ p. p.handle))

  -- the list is as long as it was lent
  pub selecting_length : held ≤ length before → length after ≡ length before
  selecting_length long = wrote_length s.wrote (omega (arith, selecting_count, s.met.upto, s.met.within))

module _ {slots by_key before after : List ℕ} {held most i listed : ℕ} {e : PageCacheEntry} (r : PartsOfSound slots by_key held)
    (s : Selecting slots by_key before held most i listed after) (more : i < held)
    (loaded : e ≡ get_or (entries slots) (get_or by_key i 0) blank) where
  -- the page that was loaded is the walk's next
  page : page_of (get_or by_key i 0) e ≡ (walk_at slots by_key i).page
  page = loaded_page slots by_key i loaded

  -- it is listed
  pub selecting_one : {listed' : ℕ} {after' : List ℕ} → page_spillable (page_of (get_or by_key i 0) e) ≡ true → listed < most
      → held ≤ length before → after' ≡ set after listed e.handle.0 → listed' ≡ listed + 1
      → Selecting slots by_key before held most (i + 1) listed' after'
  selecting_one q room long stored next =
      let handles : handles_of (spillables slots by_key (i + 1)) ≡ handles_of (spillables slots by_key i) ++ e.handle.0 ∷ [] =
      ap handles_of (walked_one page_spillable slots by_key i (omega (arith, readable_fits r)) (sym (ap page_spillable page) ∙ q))
      ∙ map-append (λ p. p.handle) (spillables slots by_key i) ((walk_at slots by_key i).page ∷ [])
      ∙ ap {B = List ℕ} (λ (p : Page). handles_of (spillables slots by_key i) ++ p.handle ∷ []) (sym page) in
      record {
        met = met_one r s.met more loaded q next;
        few = omega arith;
        wrote = rw (handles, stored)
            (wrote_more e.handle.0 s.wrote (selecting_count s) (omega (arith, s.met.upto, s.met.within)));
      }

  -- it is passed over
  pub selecting_past : {listed' : ℕ} {after' : List ℕ} → page_spillable (page_of (get_or by_key i 0) e) ≡ false → after' ≡ after → listed' ≡ listed
      → Selecting slots by_key before held most (i + 1) listed' after'
  selecting_past q kept same =
      record {
        met = met_past r s.met more loaded q same;
        few = omega (arith, s.few);
        wrote = rw (walked_past page_spillable slots by_key i (omega (arith, readable_fits r)) (sym (ap page_spillable page) ∙ q), kept) s.wrote;
      }

-- ── the selection ────────────────────────────────────────────────────────────
module _ {m : Memory} {head : PageCache} {c : Cache} {held : ℕ} {before after : List ℕ} {most i listed : ℕ} (g : Holds m head c)
    (same : head.held ≡ held) (s : Selecting m.slots m.by_key before held most i listed after) where
  -- what was met is what is selected
  selected_met : take most (spillables m.slots m.by_key held) ≡ spillables m.slots m.by_key i
      → Selected (selection most c) before after listed
  unfolding selection
  selected_met first =
      let chosen : selection most c ≡ spillables m.slots m.by_key i =
      ap (λ (row : Row). take most (those page_spillable row)) (whole_walk g same) ∙ first in
      record { number = s.met.number ∙ ap length (sym chosen); wrote = rw chosen s.wrote }

  -- there are enough
  pub selected_enough : most ≤ listed → Selected (selection most c) before after listed
  selected_enough enough =
      selected_met
      (ap (take most) (walked_split page_spillable m.slots m.by_key i held s.met.within)
      ∙ take_at (spillables m.slots m.by_key i) (those page_spillable (walk_from m.slots m.by_key i held)) most
      (omega (arith, s.few, s.met.number)))

  -- every page was met
  pub selected_all : held ≤ i → Selected (selection most c) before after listed
  selected_all end =
      let last : held ≡ i = omega (arith, s.met.within) in
      selected_met
      (ap (λ (n : ℕ). take most (spillables m.slots m.by_key n)) last
      ∙ take_all most (spillables m.slots m.by_key i) (omega (arith, s.few, s.met.number)))
