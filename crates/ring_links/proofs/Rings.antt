-- A ring turns, takes a slot in and lets one go: a store outside a way keeps the way, and any slot of a ring can be
-- turned to the front, so that each change is made there.
use mathlib.Core.Path.{◌≡◌, refl, sym, ap, ◌∙◌, subst}
use mathlib.Core.Logic.{◌⊎◌, inl, inr, ⊎_elim, Ne-symm}
use mathlib.Core.List.{List, [], ◌∷◌, ◌++◌, append_assoc, append-nil}
use Prim.Native.Nat.{ℕ, ◌<◌}
use native.Mathlib.Omega.{arith}
use native.Mathlib.Decide.{ℕ_discrete}
use lib.ListN.{length, get_or, set, length-set}
use lib.Seq.{get_or-set_same, get_or-set_other, append_snoc}
use Rattle.page.proofs.Each.{each_append, each_turn}
use Rattle.ring_links.specs.Ring.{Ring, Out, Apart, Below, Link, Way, Round}

-- ── a store elsewhere ────────────────────────────────────────────────────────
-- what stands at j after a store at another place k
kept_at : (l : List ℕ) (k j v : ℕ) {w : ℕ} → (j ≡ k → ⊥) → get_or l j 0 ≡ w → get_or (set l k v) j 0 ≡ w
kept_at l k j v ne e = get_or-set_other l k j v 0 ne ∙ e

-- a next link changes at a slot that the way does not leave, a previous one at a slot that it does not come to
way_next : (n p : List ℕ) (k v a z : ℕ) (r : List ℕ) → Out k (a ∷ r) → Way n p a r z → Way (set n k v) p a r z
way_next n p k v a z [] o w = (kept_at n k a v (Ne-symm o.0) w.0, w.1)
way_next n p k v a z (b ∷ r) o w = ((kept_at n k a v (Ne-symm o.0) w.0.0, w.0.1), way_next n p k v b z r o.1 w.1)

way_prev : (n p : List ℕ) (k v a z : ℕ) (r : List ℕ) → Out k r → (k ≡ z → ⊥) → Way n p a r z → Way n (set p k v) a r z
way_prev n p k v a z [] o ne w = (w.0, kept_at p k z v (Ne-symm ne) w.1)
way_prev n p k v a z (b ∷ r) o ne w = ((w.0.0, kept_at p k b v (Ne-symm o.0) w.0.1), way_prev n p k v b z r o.1 ne w.1)

-- ── the ring turned ──────────────────────────────────────────────────────────
apart_snoc : (e : ℕ) (r : List ℕ) → Out e r → Apart r → Apart (r ++ e ∷ [])
apart_snoc e [] o d = (tt, tt)
apart_snoc e (x ∷ r) o d = (each_append _ r (e ∷ []) d.0 (Ne-symm o.0, tt), apart_snoc e r o.1 d.1)

way_snoc : (n p : List ℕ) (a e z : ℕ) (r : List ℕ) → Way n p a r e → Link n p e z → Way n p a (r ++ e ∷ []) z
way_snoc n p a e z [] w l = (w, l)
way_snoc n p a e z (b ∷ r) w l = (w.0, way_snoc n p b e z r w.1 l)

round_snoc : (n p : List ℕ) (e : ℕ) (r : List ℕ) → Way n p e r e → Round n p (r ++ e ∷ [])
round_snoc n p e [] w = w
round_snoc n p e (b ∷ r) w = way_snoc n p b e b r w.1 w.0

-- by one slot
pub turn : {n p : List ℕ} {e : ℕ} {r : List ℕ} → Ring n p (e ∷ r) → Ring n p (r ++ e ∷ [])
turn {n} {p} {e} {r} g = record {
  same = g.same;
  apart = apart_snoc e r g.apart.0 g.apart.1;
  inside = each_turn _ (e ∷ []) r g.inside;
  round = round_snoc n p e r g.round;
  free_next = λ k o. g.free_next k (each_turn _ r (e ∷ []) o);
  free_prev = λ k o. g.free_prev k (each_turn _ r (e ∷ []) o);
}

-- by any number of slots
pub turns : {n p : List ℕ} (xs ys : List ℕ) → Ring n p (xs ++ ys) → Ring n p (ys ++ xs)
turns [] ys g = rw append-nil g
turns (x ∷ xs) ys g = rw (append_snoc ys x xs) at (turns xs (ys ++ x ∷ []) (rw (append_assoc xs ys (x ∷ [])) at (turn g)))

-- ── the slots beside one of the ring ─────────────────────────────────────────
-- the slot that a way through r to z comes to first
abbrev first : List ℕ → ℕ → ℕ
first [] z = z
first (b ∷ r) z = b

way_first : (n p : List ℕ) (a z : ℕ) (r : List ℕ) → Way n p a r z → Link n p a (first r z)
way_first n p a z [] w = w
way_first n p a z (b ∷ r) w = w.0

out_first : (k h : ℕ) (r : List ℕ) → Out k (h ∷ r) → k ≡ first r h → ⊥
out_first k h [] o = o.0
out_first k h (b ∷ r) o = o.1.0

below_first : (m h : ℕ) (r : List ℕ) → Below m (h ∷ r) → first r h < m
below_first m h [] b = b.0
below_first m h (x ∷ r) b = b.1.0

-- a list is empty, or has a last element
pub record Ended (l : List ℕ) : Type 0 where
  pub front : List ℕ
  pub back : ℕ
  pub parts : l ≡ front ++ back ∷ []

pub ended : (l : List ℕ) → (l ≡ []) ⊎ Ended l
ended [] = inl refl
ended (x ∷ l) = inr (⊎_elim alone further (ended l))
  where
    alone : l ≡ [] → Ended (x ∷ l)
    alone e = record { front = []; back = x; parts = ap (λ (q : List ℕ). x ∷ q) e }

    further : Ended l → Ended (x ∷ l)
    further t = record { front = x ∷ t.front; back = t.back; parts = ap (λ (q : List ℕ). x ∷ q) t.parts }

-- the slot after one of the ring is below the length
pub next_inside : {n p : List ℕ} {h : ℕ} {row : List ℕ} → Ring n p (h ∷ row) → get_or n h 0 < length n
next_inside {n} {p} {h} {row} g = rw (way_first n p h h row g.round).0 (below_first (length n) h row g.inside)

-- and so is the slot before it
pub prev_inside : {n p : List ℕ} {h : ℕ} {row : List ℕ} → Ring n p (h ∷ row) → get_or p h 0 < length n
prev_inside {n} {p} {h} {row} g = ⊎_elim
    (λ (e : row ≡ []). let f : Ring n p (h ∷ []) = rw e at g in rw f.round.1 f.inside.0)
    (λ (t : Ended row).
    let f : Ring n p (t.back ∷ h ∷ t.front) = turns (h ∷ t.front) (t.back ∷ []) (rw t.parts at g) in
    rw f.round.0.1 f.inside.0)
    (ended row)

-- turned by one slot, the ring begins at the slot after its first
pub record TurnedTo (n p : List ℕ) (h : ℕ) (row : List ℕ) : Type 0 where
  pub rest : List ℕ
  pub parts : row ++ h ∷ [] ≡ get_or n h 0 ∷ rest
  pub ring : Ring n p (get_or n h 0 ∷ rest)

pub turn_to : {n p : List ℕ} {h : ℕ} (row : List ℕ) → Ring n p (h ∷ row) → TurnedTo n p h row
turn_to [] g = record { rest = []; parts = rw g.round.0; ring = rw g.round.0 g }
turn_to {h = h} (b ∷ row) g = record { rest = row ++ h ∷ []; parts = rw g.round.0.0; ring = rw g.round.0.0 (turn g) }

-- ── a slot comes in ──────────────────────────────────────────────────────────
-- the first slot is a ring of its own
pub link_first : (n p : List ℕ) (s : ℕ) → s < length n → Ring n p [] → Ring (set n s s) (set p s s) (s ∷ [])
link_first n p s ls g = record {
  same = simp length-set g.same;
  apart = (tt, tt);
  inside = simp length-set (ls, tt);
  round = (get_or-set_same n s s 0 ls, get_or-set_same p s s 0 (simp g.same ls));
  free_next = λ k q. kept_at n s k s q.0 (g.free_next k tt);
  free_prev = λ k q. kept_at p s k s q.0 (g.free_prev k tt);
}

module _ (n p : List ℕ) (h s : ℕ) where
  way_linked : (row : List ℕ) → h < length n → length p ≡ length n → s < length n → Apart (h ∷ row) → Below (length n) (h ∷ row) → Out s (h ∷ row)
      → Way n p h row h → Way (set (set n s (first row h)) h s) (set (set p s h) (first row h) s) s row h
  way_linked [] lh e ls d b o w = (
    kept_at (set n s h) h s s o.0 (get_or-set_same n s h 0 ls),
    get_or-set_same (set p s h) h s 0 (simp length-set (omega arith)),
  )
  way_linked (x ∷ r) lh e ls d b o w = (
    (
      kept_at (set n s x) h s s o.0 (get_or-set_same n s x 0 ls),
      get_or-set_same (set p s h) x s 0 (simp length-set (omega arith)),
    ),
    way_prev _ (set p s h) x s x h r d.1.0 (Ne-symm d.0.0)
        (way_prev _ p s h x h r o.1.1 o.0
        (way_next (set n s x) p h s x h r d.0 (way_next n p s x x h r o.1 w.1))),
  )

  long_after : (row : List ℕ) → length (set (set n s (first row h)) h s) ≡ length n
  long_after row = simp length-set refl

  linked : (row : List ℕ) → s < length n → Ring n p (h ∷ row) → Out s (h ∷ row)
      → Ring (set (set n s (first row h)) h s) (set (set p s h) (first row h) s) (h ∷ s ∷ row)
  linked row ls g o = record {
    same = simp length-set g.same;
    apart = ((Ne-symm o.0, g.apart.0), (o.1, g.apart.1));
    inside = subst (λ k. Below k (h ∷ s ∷ row)) (sym (long_after row)) (g.inside.0, (ls, g.inside.1));
    round = (
      (
        get_or-set_same (set n s (first row h)) h s 0 (simp length-set g.inside.0),
        kept_at (set p s h) (first row h) s s (out_first s h row o) (get_or-set_same p s h 0 (simp g.same ls)),
      ),
      way_linked row g.inside.0 g.same ls g.apart g.inside o g.round,
    );
    free_next = λ k q. kept_at (set n s (first row h)) h k s q.0 (kept_at n s k (first row h) q.1.0 (g.free_next k (q.0, q.1.1)));
    free_prev = λ k q. kept_at (set p s h) (first row h) k s (out_first k h row (q.0, q.1.1)) (kept_at p s k h q.1.0 (g.free_prev k (q.0, q.1.1)));
  }

  -- another goes directly after the hand
  pub link_after : (row : List ℕ) → s < length n → Ring n p (h ∷ row) → Out s (h ∷ row)
      → Ring (set (set n s (get_or n h 0)) h s) (set (set p s h) (get_or n h 0) s) (h ∷ s ∷ row)
  link_after row ls g o = rw (way_first n p h h row g.round).0 (linked row ls g o)

-- ── a slot goes out ──────────────────────────────────────────────────────────
-- after the first slot a
module _ (n p : List ℕ) (a s : ℕ) where
  way_unlinked : (rest : List ℕ) → length p ≡ length n → Apart (a ∷ s ∷ rest) → Below (length n) (a ∷ s ∷ rest) → Way n p s rest a
      → Way (set (set n a (first rest a)) s 0) (set (set p (first rest a) a) s 0) a rest a
  way_unlinked [] e d b w = (
    kept_at (set n a a) s a 0 d.0.0 (get_or-set_same n a a 0 b.0),
    kept_at (set p a a) s a 0 d.0.0 (get_or-set_same p a a 0 (omega arith)),
  )
  way_unlinked (x ∷ r) e d b w = (
    (
      kept_at (set n a x) s a 0 d.0.0 (get_or-set_same n a x 0 b.0),
      kept_at (set p x a) s x 0 (Ne-symm d.1.0.0) (get_or-set_same p x a 0 (omega arith)),
    ),
    way_prev _ (set p x a) s 0 x a r d.1.0.1 (Ne-symm d.0.0)
        (way_prev _ p x a x a r d.1.1.0 (Ne-symm d.0.1.0)
        (way_next (set n a x) p s 0 x a r d.1.0 (way_next n p a x x a r d.0.1 w.1))),
  )

  long_without : (rest : List ℕ) → length (set (set n a (first rest a)) s 0) ≡ length n
  long_without rest = simp length-set refl

  unlinked : (rest : List ℕ) → Ring n p (a ∷ s ∷ rest) → Ring (set (set n a (first rest a)) s 0) (set (set p (first rest a) a) s 0) (a ∷ rest)
  unlinked rest g = record {
    same = simp length-set g.same;
    apart = (g.apart.0.1, g.apart.1.1);
    inside = subst (λ k. Below k (a ∷ rest)) (sym (long_without rest)) (g.inside.0, g.inside.1.1);
    round = way_unlinked rest g.same g.apart g.inside g.round.1;
    free_next = λ k q. next_of k q (ℕ_discrete k s);
    free_prev = λ k q. prev_of k q (ℕ_discrete k s);
  }
    where
      next_of : (k : ℕ) → Out k (a ∷ rest) → Dec (k ≡ s) → get_or (set (set n a (first rest a)) s 0) k 0 ≡ 0
      next_of k q (yes e) = rw e (get_or-set_same (set n a (first rest a)) s 0 0 (simp length-set g.inside.1.0))
      next_of k q (no ne) = kept_at (set n a (first rest a)) s k 0 ne (kept_at n a k (first rest a) q.0 (g.free_next k (q.0, (ne, q.1))))

      prev_of : (k : ℕ) → Out k (a ∷ rest) → Dec (k ≡ s) → get_or (set (set p (first rest a) a) s 0) k 0 ≡ 0
      prev_of k q (yes e) = rw e (get_or-set_same (set p (first rest a) a) s 0 0 (simp (length-set, g.same) g.inside.1.0))
      prev_of k q (no ne) = kept_at (set p (first rest a) a) s k 0 ne (kept_at p (first rest a) k a (out_first k a rest q) (g.free_prev k (q.0, (ne, q.1))))

  unlink_second : (rest : List ℕ) → Ring n p (a ∷ s ∷ rest)
      → Ring (set (set n (get_or p s 0) (get_or n s 0)) s 0) (set (set p (get_or n s 0) (get_or p s 0)) s 0) (a ∷ rest)
  unlink_second rest g = rw (g.round.0.1, (way_first n p s a rest g.round.1).0) (unlinked rest g)

module _ (n p : List ℕ) (s : ℕ) where
  unlink_only : Ring n p (s ∷ []) → Ring (set (set n (get_or p s 0) (get_or n s 0)) s 0) (set (set p (get_or n s 0) (get_or p s 0)) s 0) []
  unlink_only g = rw (g.round.0, g.round.1) (record {
    same = simp length-set g.same;
    apart = tt;
    inside = tt;
    round = tt;
    free_next = λ k q. next_of k (ℕ_discrete k s);
    free_prev = λ k q. prev_of k (ℕ_discrete k s);
  })
    where
      next_of : (k : ℕ) → Dec (k ≡ s) → get_or (set (set n s s) s 0) k 0 ≡ 0
      next_of k (yes e) = rw e (get_or-set_same (set n s s) s 0 0 (simp length-set g.inside.0))
      next_of k (no ne) = kept_at (set n s s) s k 0 ne (kept_at n s k s ne (g.free_next k (ne, tt)))

      prev_of : (k : ℕ) → Dec (k ≡ s) → get_or (set (set p s s) s 0) k 0 ≡ 0
      prev_of k (yes e) = rw e (get_or-set_same (set p s s) s 0 0 (simp (length-set, g.same) g.inside.0))
      prev_of k (no ne) = kept_at (set p s s) s k 0 ne (kept_at p s k s ne (g.free_prev k (ne, tt)))

  unlink_first : (l : List ℕ) → Ring n p (s ∷ l) → Ring (set (set n (get_or p s 0) (get_or n s 0)) s 0) (set (set p (get_or n s 0) (get_or p s 0)) s 0) l
  unlink_first l g = ⊎_elim
      (λ (e : l ≡ []). rw e (unlink_only (rw e at g)))
      (λ (t : Ended l). rw t.parts (turn (unlink_second n p t.back s t.front (turns (s ∷ t.front) (t.back ∷ []) (rw t.parts at g)))))
      (ended l)

  -- anywhere
  pub unlink : (before after : List ℕ) → Ring n p (before ++ s ∷ after)
      → Ring (set (set n (get_or p s 0) (get_or n s 0)) s 0) (set (set p (get_or n s 0) (get_or p s 0)) s 0) (before ++ after)
  unlink before after g = turns after before (unlink_first (after ++ before) (turns before (s ∷ after) g))
