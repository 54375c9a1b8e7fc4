-- The seats after a write. A slot that isn't written keeps all but its links, and the new ring says that the links of every
-- slot that is no seat are zero: so a slot that is free stays blank, and one that becomes free becomes blank.
use mathlib.Core.Path.{◌≡◌, refl, sym, ap, ◌∙◌}
use mathlib.Core.Bool.{true, true≢false}
use mathlib.Core.List.{List, [], ◌∷◌, ◌++◌}
use Prim.Native.Nat.{ℕ, ◌<◌}
use native.Mathlib.Decide.{ℕ_discrete}
use lib.ListN.{length, get_or, set}
use Rattle.page.specs.declared.entry.PageCacheEntry.{PageCacheEntry}
use Rattle.page.specs.declared.names.Slot.{Slot}
use Rattle.page.proofs.Each.{each_left, each_right, each_place}
use Rattle.pool.specs.Slots.{blank}
use Rattle.ring_links.specs.Ring.{has, Out}
use Rattle.ring_links.specs.Links.{nexts, prevs, RingOf, linked_first, linked_after, unlinked}
use Rattle.ring_links.proofs.Columns.{kept, next_at_lem, prev_at_lem, ring_first, ring_after, ring_unlinked}
use Rattle.sorted_index.proofs.Membership.{has_out, out_has, has_mid}
use Rattle.memory.specs.Holds.{Seated}
use Rattle.memory.proofs.Columns.{bare, Written, bare_here, bare_else, written_store, written_first, written_after, written_unlinked}

-- ── lists of slots ───────────────────────────────────────────────────────────
pub out_parts : (k : ℕ) (a b : List ℕ) → Out k (a ++ b) → Out k a × Out k b
out_parts k a b out = (each_left _ a b out, each_right _ a b out)

-- a slot that is in is not out
pub in_out : (k : ℕ) (seats : List ℕ) → has k seats ≡ true → Out k seats → ⊥
in_out k seats h out = true≢false (sym h ∙ has_out k seats out)

-- ── any write ────────────────────────────────────────────────────────────────
-- an entry that is blank but for its links, and has none, is blank
blank_of : (e : PageCacheEntry) → bare e ≡ bare blank → e.next.0 ≡ 0 → e.prev.0 ≡ 0 → e ≡ blank
unfolding blank
blank_of e q next prev = λ i. record {
  key = (q i).key;
  handle = (q i).handle;
  page = (q i).page;
  uses = (q i).uses;
  spare = (q i).spare;
  next = record { 0 = next i };
  prev = record { 0 = prev i };
}

pub blank_spare : blank.spare ≡ 0
unfolding blank
blank_spare = refl

module _ {es : List PageCacheEntry} {s : ℕ} {e : PageCacheEntry} {es' : List PageCacheEntry} {seats seats' : List ℕ} where
  -- the slots that are no seats now were none before, but for the written one, which is then blank
  pub seated_written : Written es s e es' → s < length es → Seated es seats → RingOf es' seats' → e.spare ≡ 0
      → ((k : ℕ) → Out k seats' → k ≡ s → bare e ≡ bare blank) → ((k : ℕ) → Out k seats' → (k ≡ s → ⊥) → Out k seats) → Seated es' seats'
  seated_written w inside g ring spare gone stayed = record {
    ring = ring;
    vacant = λ k out.
        let no_next : (get_or es' k blank).next.0 ≡ 0 = sym (next_at_lem es' k) ∙ ring.free_next k out in
        let no_prev : (get_or es' k blank).prev.0 ≡ 0 = sym (prev_at_lem es' k) ∙ ring.free_prev k out in
        blank_of (get_or es' k blank) (bare_at k out (ℕ_discrete k s)) no_next no_prev;
    spare = λ k. spare_at k (ℕ_discrete k s);
  }
    where
      bare_at : (k : ℕ) → Out k seats' → Dec (k ≡ s) → bare (get_or es' k blank) ≡ bare blank
      bare_at k out (yes q) = rw q (bare_here w inside) ∙ gone k out q
      bare_at k out (no other) = bare_else w k other ∙ ap {B = PageCacheEntry} bare (g.vacant k (stayed k out other))

      spare_at : (k : ℕ) → Dec (k ≡ s) → (get_or es' k blank).spare ≡ 0
      spare_at k (yes q) = rw q (ap (λ (x : PageCacheEntry). x.spare) (bare_here w inside) ∙ spare)
      spare_at k (no other) = ap (λ (x : PageCacheEntry). x.spare) (bare_else w k other) ∙ g.spare k

-- ── a seat is given up ───────────────────────────────────────────────────────
pub seated_unlinked : (es : List PageCacheEntry) (s : ℕ) (before after : List ℕ) → s < length es → Seated es (before ++ s ∷ after)
    → Seated (unlinked es s) (before ++ after)
seated_unlinked es s before after inside g =
    seated_written (written_unlinked es s) inside g (ring_unlinked es s before after g.ring) blank_spare (λ k out q. refl)
    (λ k out other. each_place _ before s after other out)

-- ── a seat is taken ──────────────────────────────────────────────────────────
-- a first one is the hand's; another goes directly after the hand
abbrev pub new_seats : ℕ → List ℕ → List ℕ
new_seats s [] = s ∷ []
new_seats s (hand ∷ seats) = hand ∷ s ∷ seats

pub has_new : (k s : ℕ) (seats : List ℕ) → has k (new_seats s seats) ≡ has k (s ∷ seats)
has_new k s [] = refl
has_new k s (hand ∷ seats) = has_mid k s (hand ∷ []) seats

out_new : (k s : ℕ) (seats : List ℕ) → Out k (new_seats s seats) → Out k (s ∷ seats)
out_new k s seats out = out_has k (s ∷ seats) (sym (has_new k s seats) ∙ has_out k (new_seats s seats) out)

module _ (es : List PageCacheEntry) (s : ℕ) (e : PageCacheEntry) (inside : s < length es) (spare : e.spare ≡ 0) where
  pub seated_first : Seated es [] → Seated (linked_first es s e) (s ∷ [])
  seated_first g =
      seated_written (written_first es s e) inside g (ring_first es s e inside g.ring) spare
      (λ k out q. absurd (out.0 q)) (λ k out other. tt)

  pub seated_after : (hand : ℕ) (seats : List ℕ) → Out s (hand ∷ seats) → Seated es (hand ∷ seats)
      → Seated (linked_after es hand s e) (hand ∷ s ∷ seats)
  seated_after hand seats free g =
      seated_written (written_after es hand s e) inside g (ring_after es hand s e seats inside g.ring free) spare
      (λ k out q. absurd (out.1.0 q)) (λ k out other. (out_new k s (hand ∷ seats) out).1)

-- ── a seat has another entry ─────────────────────────────────────────────────
-- with the same links
pub seated_store : (es : List PageCacheEntry) (s : ℕ) (e : PageCacheEntry) {seats : List ℕ} → s < length es → has s seats ≡ true
    → e.next ≡ (get_or es s blank).next → e.prev ≡ (get_or es s blank).prev → e.spare ≡ 0 → Seated es seats → Seated (set es s e) seats
seated_store es s e {seats} inside held next prev spare g =
    seated_written (written_store es s e) inside g ring spare
    (λ k out q. absurd (in_out s seats held (rw q at out))) (λ k out other. out)
  where
    ring : RingOf (set es s e) seats
    ring =
        let nexts_kept : nexts (set es s e) ≡ nexts es = kept (λ x. x.next.0) es s (ap (λ (x : Slot). x.0) next) in
        let prevs_kept : prevs (set es s e) ≡ prevs es = kept (λ x. x.prev.0) es s (ap (λ (x : Slot). x.0) prev) in
        rw (nexts_kept, prevs_kept) g.ring
