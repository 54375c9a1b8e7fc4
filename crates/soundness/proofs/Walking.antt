-- A walk along `next` that comes back to its start only at its end meets no slot twice: if a slot were met again, so would the
-- slots after it be, and at last the start. So the loop need only follow the links and count; what is left to show at each turn
-- is that the rest of the walk exists.
use mathlib.Core.Path.{◌≡◌, refl, sym, ap, ◌∙◌}
use mathlib.Core.Bool.{Bool, true, false}
use mathlib.Core.List.{List, [], ◌∷◌}
use Prim.Native.Nat.{ℕ, suc, ◌+◌, ◌-◌, ◌≤◌, ◌<◌}
use native.Mathlib.Omega.{arith}
use lib.Dec.{eqb}
use lib.ListN.{length, get_or}
use borrow.Author.Tests.{eq-eqb, eqb-true}
use Rattle.page.specs.declared.entry.PageCacheEntry.{PageCacheEntry}
use Rattle.page.specs.All.{All}
use Rattle.ring_links.specs.Links.{nexts, prevs, next_at, prev_at}
use Rattle.free_marks.specs.Marks.{bit_at}
use Rattle.ring_links.specs.Ring.{Out, Apart, Way, Round, first_of}
use Rattle.pool.specs.Slots.{blank}
use Rattle.pool.specs.Decides.{Decides}
use Rattle.ring_links.proofs.Columns.{next_at_lem, prev_at_lem}
use Rattle.pool.proofs.Decides.{decides_no}
use Rattle.soundness.specs.Checks.{Taken, Walked}
use Rattle.free_marks.proofs.Marking.{bit_limit}
use Rattle.soundness.proofs.Bits.{free_marked, held_unmarked}

-- ── no slot twice ────────────────────────────────────────────────────────────
module _ (n p : List ℕ) (z : ℕ) where
  fresh : (a b c : ℕ) (r : List ℕ) → get_or n a 0 ≡ b → Way n p c r z → Out b r → (b ≡ z → ⊥) → Out a (c ∷ r)
  fresh a b c [] e w o ne = ((λ q. ne (sym e ∙ ap (λ (x : ℕ). get_or n x 0) q ∙ w.0)), tt)
  fresh a b c (d ∷ r) e w o ne = ((λ q. o.0 (sym e ∙ ap (λ (x : ℕ). get_or n x 0) q ∙ w.0.0)), fresh a b d r e w.1 o.1 ne)

  way_apart : (a : ℕ) (r : List ℕ) → Way n p a r z → Out z r → Apart (a ∷ r)
  way_apart a [] w o = (tt, tt)
  way_apart a (b ∷ r) w o =
      let rest = way_apart b r w.1 o.1 in
      (fresh a b b r w.0.0 w.1 rest.0 (λ e. o.0 (sym e)), rest)

-- ── what is left of a walk ───────────────────────────────────────────────────
-- the way from slot a back to z has k slots, a among them
pub record Rest (es : List PageCacheEntry) (m : List ℕ) (z k a : ℕ) : Type 0 where
  pub row : List ℕ
  pub long : suc (length row) ≡ k
  pub way : Way (nexts es) (prevs es) a row z
  pub out : Out z row
  pub taken : All (Taken m (length es)) (a ∷ row)

module _ {es : List PageCacheEntry} {m : List ℕ} {z k a : ℕ} where
  rest_taken : Rest es m z k a → Taken m (length es) a
  rest_taken t = t.taken.0

  rest_next : z < length es → Rest es m z k a → next_at es a < length es
  rest_next h t = go t.row t.way t.taken
    where
      go : (r : List ℕ) → Way (nexts es) (prevs es) a r z → All (Taken m (length es)) (a ∷ r) → next_at es a < length es
      go [] w g = rw (← (next_at_lem es a), w.0) h
      go (b ∷ r) w g = rw (← (next_at_lem es a), w.0.0) g.1.0.inside

  rest_back : Rest es m z k a → prev_at es (next_at es a) ≡ a
  rest_back t = go t.row t.way
    where
      go : (r : List ℕ) → Way (nexts es) (prevs es) a r z → prev_at es (next_at es a) ≡ a
      go [] w = sym (prev_at_lem es (next_at es a)) ∙ ap (λ (x : ℕ). get_or (prevs es) x 0) (sym (next_at_lem es a) ∙ w.0) ∙ w.1
      go (b ∷ r) w = sym (prev_at_lem es (next_at es a)) ∙ ap (λ (x : ℕ). get_or (prevs es) x 0) (sym (next_at_lem es a) ∙ w.0.0) ∙ w.0.1

  -- where the next slot is the start, this one was the last
  rest_last : Rest es m z k a → next_at es a ≡ z → k ≡ 1
  rest_last t e = go t.row t.long t.way t.out
    where
      go : (r : List ℕ) → suc (length r) ≡ k → Way (nexts es) (prevs es) a r z → Out z r → k ≡ 1
      go [] q w o = sym q
      go (b ∷ r) q w o = absurd (o.0 (sym e ∙ sym (next_at_lem es a) ∙ w.0.0))

  -- where it is not, the rest goes on from there
  rest_on : Rest es m z (suc k) a → (next_at es a ≡ z → ⊥) → Rest es m z k (next_at es a)
  rest_on t ne = go t.row t.long t.way t.out t.taken
    where
      go : (r : List ℕ) → suc (length r) ≡ suc k → Way (nexts es) (prevs es) a r z → Out z r → All (Taken m (length es)) (a ∷ r) → Rest es m z k (next_at es a)
      go [] q w o g = absurd (ne (sym (next_at_lem es a) ∙ w.0))
      go (b ∷ r) q w o g = rw (← (next_at_lem es a), w.0.0) (record { row = r; long = omega arith; way = w.1; out = o.1; taken = g.1 })

  rest_end : k ≡ 1 → Taken m (length es) a → next_at es a ≡ z → prev_at es (next_at es a) ≡ a → Rest es m z k a
  rest_end q g e b = record {
    row = [];
    long = sym q;
    way = (next_at_lem es a ∙ e, prev_at_lem es z ∙ ap (prev_at es) (sym e) ∙ b);
    out = tt;
    taken = (g, tt);
  }

  rest_step : Taken m (length es) a → prev_at es (next_at es a) ≡ a → (next_at es a ≡ z → ⊥)
      → Rest es m z k (next_at es a) → Rest es m z (suc k) a
  rest_step g b ne t = record {
    row = next_at es a ∷ t.row;
    long = ap suc t.long;
    way = ((next_at_lem es a, prev_at_lem es (next_at es a) ∙ b), t.way);
    out = ((λ e. ne (sym e)), t.out);
    taken = (g, t.taken);
  }

module _ {es : List PageCacheEntry} {m : List ℕ} {n hand : ℕ} where
  rest_walked : Rest es m hand n hand → Walked es m n hand
  rest_walked t = record {
    seats = hand ∷ t.row;
    long = t.long;
    first = refl;
    round = t.way;
    apart = way_apart (nexts es) (prevs es) hand hand t.row t.way t.out;
    taken = t.taken;
  }

  walked_rest : 1 ≤ n → Walked es m n hand → Rest es m hand n hand
  walked_rest h w = go w.seats w.long w.first w.round w.apart w.taken
    where
      go : (l : List ℕ) → length l ≡ n → hand ≡ first_of l → Round (nexts es) (prevs es) l → Apart l → All (Taken m (length es)) l → Rest es m hand n hand
      go [] q e o d g = absurd (omega arith)
      go (b ∷ r) q e o d g = rw e (record { row = r; long = q; way = o; out = d.0; taken = g })

-- ── the loop ─────────────────────────────────────────────────────────────────
-- from slot a, with k slots to go, there is a way back exactly if there is a whole walk
pub record Walking (es : List PageCacheEntry) (m : List ℕ) (n z k a : ℕ) : Type 0 where
  pub inside : a < length es
  pub on : Rest es m z k a → Rest es m z n z
  pub back : Rest es m z n z → Rest es m z k a

pub walking_start : {es : List PageCacheEntry} {m : List ℕ} {n z : ℕ} → z < length es → Walking es m n z n z
walking_start h = record { inside = h; on = λ t. t; back = λ t. t }

module _ {es : List PageCacheEntry} {m : List ℕ} {n z k a : ℕ} (walking : Walking es m n z k a) (some : 1 ≤ n) where
  no_walk : (Rest es m z k a → ⊥) → Decides false (Walked es m n z)
  no_walk f = decides_no (λ w. f (walking.back (walked_rest some w)))

  -- all slots are used up, and the walk is not back
  pub walking_out : k ≡ 0 → Decides false (Walked es m n z)
  walking_out e = no_walk (λ t. omega (arith, t.long))

  module _ {free : Bool} (t : Decides free (bit_at m a ≡ 1)) where
    pub walking_free : free ≡ true → Decides false (Walked es m n z)
    walking_free e = no_walk (λ r. free_marked t e (rest_taken r).held)

    module _ {next : ℕ} (r : next ≡ next_at es a) where
      pub walking_wild : z < length es → length es ≤ next → Decides false (Walked es m n z)
      walking_wild h l = no_walk (λ t. less (rest_next h t) (rw r at l))
        where
          less : {x y : ℕ} → x < y → y ≤ x → ⊥
          less p q = omega arith

      module _ {f : PageCacheEntry} (s : f ≡ get_or es next blank) where
        pub walking_cut : (f.prev.0 ≡ a → ⊥) → Decides false (Walked es m n z)
        walking_cut ne = no_walk (λ t. ne (rw (s, r) (rest_back t)))

        module _ (held : free ≡ false) (inverse : f.prev.0 ≡ a) where
          here : Taken m (length es) a
          here = record { inside = walking.inside; held = held_unmarked t (bit_limit m a) held }

          -- back at the start after i slots and this one: at the end, or too soon
          pub walking_home : next ≡ z → {i : ℕ} → i < n → k ≡ n - i → Decides (eqb (i + 1) n) (Walked es m n z)
          walking_home h {i} l e = record {
            right = λ u. rest_walked (walking.on (rest_end (last (eqb-true _ _ u)) here (rw r at h) (rw (s, r) at inverse)));
            whole = λ w. eq-eqb (i + 1) n (one (rest_last (walking.back (walked_rest some w)) (rw r at h)));
          }
            where
              last : i + 1 ≡ n → k ≡ 1
              last u = omega arith

              one : k ≡ 1 → i + 1 ≡ n
              one u = omega arith

          pub walking_on : (next ≡ z → ⊥) → next < length es → {i : ℕ} → i < n → k ≡ n - i → Walking es m n z (n - (i + 1)) next
          walking_on ne l {i} h e = record {
            inside = l;
            on = λ t. walking.on (rw more (rest_step here (rw (s, r) at inverse) (rw r at ne) (rw r at t)));
            back = λ t. rw r (rest_on (rw more at (walking.back t)) (rw r at ne));
          }
            where
              more : k ≡ suc (n - (i + 1))
              more = omega arith

-- ── nothing to walk, and a hand that is no slot ──────────────────────────────
pub walked_none : {es : List PageCacheEntry} {m : List ℕ} {n hand : ℕ} → n ≡ 0 → Decides (eqb hand 0) (Walked es m n hand)
walked_none {es} {m} {n} {hand} z = record {
  right = λ e. record { seats = []; long = sym z; first = eqb-true hand 0 e; round = tt; apart = tt; taken = tt };
  whole = λ w. eq-eqb hand 0 (go w.seats w.long w.first);
}
  where
    go : (l : List ℕ) → length l ≡ n → hand ≡ first_of l → hand ≡ 0
    go [] q e = e
    go (x ∷ l) q e = absurd (omega arith)

pub walked_outside : {es : List PageCacheEntry} {m : List ℕ} {n hand : ℕ} → (n ≡ 0 → ⊥) → length es ≤ hand → Decides false (Walked es m n hand)
walked_outside ne l = decides_no (λ w. omega (arith, (rest_taken (walked_rest (omega arith) w)).inside))
