-- The seats and the row determine the entries: a slot that is no seat is blank, and of one that is a seat the row says all
-- but the links, which the ring of the seats determines, and the spare byte, which is 0.
use mathlib.Core.Path.{◌≡◌, refl, sym, ap, ◌∙◌}
use mathlib.Core.Logic.{◌⊎◌, inl, inr, ⊎_elim}
use mathlib.Core.List.{List, [], ◌∷◌, map, head-eq_of_cons-eq, tail-eq_of_cons-eq}
use Prim.Native.Nat.{ℕ}
use native.Mathlib.Decide.{ℕ_discrete}
use lib.ListN.{length, get_or}
use lib.Seq.{ext_get_or}
use Rattle.page.specs.declared.entry.PageCacheEntry.{PageCacheEntry}
use Rattle.ring_links.specs.Links.{next_at, prev_at}
use Rattle.ring_links.specs.Ring.{Out}
use Rattle.pool.specs.Slots.{blank}
use Rattle.ring_links.proofs.Columns.{next_at_lem, prev_at_lem}
use Rattle.ring_links.proofs.Rows.{next_at_only, prev_at_only}
use Rattle.model.specs.Row.{Entry}
use Rattle.memory.specs.Holds.{Seated, seen, row_of}

-- the seats are the slots of the row
pub row_slots : (es : List PageCacheEntry) (seats : List ℕ) → map (λ (e : Entry). e.page.slot) (row_of es seats) ≡ seats
row_slots es [] = refl
row_slots es (s ∷ seats) = ap {B = List ℕ} (λ (l : List ℕ). s ∷ l) (row_slots es seats)

-- a slot is no seat, or equal rows say the same of it
row_at : (es es' : List PageCacheEntry) (seats : List ℕ) → row_of es seats ≡ row_of es' seats → (k : ℕ)
    → Out k seats ⊎ (seen k (get_or es k blank) ≡ seen k (get_or es' k blank))
row_at es es' [] rows k = inl tt
row_at es es' (s ∷ seats) rows k = here (ℕ_discrete k s) (row_at es es' seats (tail-eq_of_cons-eq rows) k)
  where
    here : Dec (k ≡ s) → Out k seats ⊎ (seen k (get_or es k blank) ≡ seen k (get_or es' k blank))
        → Out k (s ∷ seats) ⊎ (seen k (get_or es k blank) ≡ seen k (get_or es' k blank))
    here (yes e) t = inr (rw e (head-eq_of_cons-eq rows))
    here (no ne) (inl o) = inl (ne, o)
    here (no ne) (inr q) = inr q

module _ {es es' : List PageCacheEntry} {seats : List ℕ} (g : Seated es seats) (g' : Seated es' seats) (rows : row_of es seats ≡ row_of es' seats) where
  entry_once : (k : ℕ) → get_or es k blank ≡ get_or es' k blank
  entry_once k = ⊎_elim (λ (o : Out k seats). g.vacant k o ∙ sym (g'.vacant k o)) whole (row_at es es' seats rows k)
    where
      whole : seen k (get_or es k blank) ≡ seen k (get_or es' k blank) → get_or es k blank ≡ get_or es' k blank
      whole q =
          let next : next_at es k ≡ next_at es' k = sym (next_at_lem es k) ∙ next_at_only g.ring g'.ring k ∙ next_at_lem es' k in
          let prev : prev_at es k ≡ prev_at es' k = sym (prev_at_lem es k) ∙ prev_at_only g.ring g'.ring k ∙ prev_at_lem es' k in
          let spare : (get_or es k blank).spare ≡ (get_or es' k blank).spare = g.spare k ∙ sym (g'.spare k) in
          λ i. record {
            key = record { 0 = (q i).page.key };
            handle = record { 0 = (q i).page.handle };
            page = (q i).page.state;
            uses = (q i).uses;
            spare = spare i;
            next = record { 0 = next i };
            prev = record { 0 = prev i };
          }

  pub entries_once : length es ≡ length es' → es ≡ es'
  entries_once long = ext_get_or blank es es' long (λ k _. entry_once k)
