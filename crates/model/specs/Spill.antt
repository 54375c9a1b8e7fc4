-- Rules 13 and 14: whether a spill is needed, and which pages it selects.
use Rattle.std.specs.Prelude.{Bool, true, false, ◌&&◌, List, [], ◌∷◌, map, ℕ, ◌+◌, ◌-◌, leb, ltb, length, take}
use Rattle.page.specs.Cache.{threshold, spillable}
use Rattle.model.specs.Row.{Page, sorted_by_key, those}
use Rattle.model.specs.Cache.{Cache, held_in, page_may_go}
use Rattle.model.specs.Call.{Outcome, answer, listing}

-- held - threshold
abbrev pub excess : Cache → ℕ
excess c = held_in c - threshold c.capacity

-- rule 13: enabled, held >= threshold, estimate + max(0, capacity - held) < held - threshold, and fewer pages may go than
-- held - threshold
unfoldable pub needs_spill : Cache → Bool
needs_spill c =
    c.spill && leb (threshold c.capacity) (held_in c) && ltb (c.estimate + (c.capacity - held_in c)) (excess c)
    && ltb (length (those page_may_go c.row)) (excess c)

abbrev pub page_spillable : Page → Bool
page_spillable p = spillable p.key p.state

-- rule 14: the first `most` pages by key that can be spilled
unfoldable pub selection : ℕ → Cache → List Page
selection most c = take most (those page_spillable (sorted_by_key c.row))

-- 19 if none is selected; selection changes nothing in the pool
abbrev pub selected : List Page → Cache → Outcome
selected [] c = answer 19 0 c
selected (p ∷ ps) c = listing (map (λ q. q.handle) (p ∷ ps)) (answer 0 (length (p ∷ ps)) c)

-- 18 if no spill is needed
abbrev pub on_spill : ℕ → Cache → Outcome
on_spill most c = elim (needs_spill c) [ true ↦ selected (selection most c) c | false ↦ answer 18 0 c ]
