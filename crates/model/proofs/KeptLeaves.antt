-- What a rule leaves, put together as outcomes are: an answer, a listed handle before an outcome, an outcome after evictions.
use mathlib.Core.List.{List, [], ◌∷◌, ◌++◌, cons≢nil}
use mathlib.Core.Logic.{◌≢◌, ◌⊎◌, inl, inr}
use mathlib.Core.Path.{◌≡◌, refl, ◌∙◌}
use Prim.Native.Nat.{ℕ, suc, ◌≤◌}
use native.Mathlib.Omega.{arith}
use lib.ListN.{length, length-append}
use Rattle.model.specs.Cache.{Cache, held_in}
use Rattle.model.specs.Call.{Outcome, answer, listing}
use Rattle.model.specs.Rooms.{Room, following}
use Rattle.model.specs.Limits.{CacheInvariant}
use Rattle.model.proofs.KeptRooms.{Makes}

both_nil : (xs ys : List ℕ) → xs ++ ys ≡ [] → (xs ≡ []) × (ys ≡ [])
both_nil [] ys q = (refl, q)
both_nil (x ∷ xs) ys q = absurd (cons≢nil q)

-- the cache is as it was, and nothing is listed
pub record Unchanged (c : Cache) (o : Outcome) : Type 0 where
  pub cache : o.cache ≡ c
  pub listed : o.listed ≡ []

-- neither 0, done, nor 9, which touches the page
pub record Refusal (code : ℕ) : Type 0 where
  pub not_done : code ≢ 0
  pub not_touched : code ≢ 9

-- an outcome of a rule on the cache c
pub record Leaves (c : Cache) (most : ℕ) (given : Type 0) (o : Outcome) : Type 0 where
  -- the limits are kept, if the arguments are in range
  pub kept : given → CacheInvariant o.cache
  -- at most `most` handles are listed
  pub listed : length o.listed ≤ most
  -- a code from 11 on says that nothing was changed
  pub refused : 11 ≤ o.code → Unchanged c o
  -- and so does any refusal that lists nothing
  pub unlisted : Refusal o.code → o.listed ≡ [] → o.cache ≡ c

module _ {most : ℕ} {given : Type 0} (c : Cache) where
  -- nothing was changed, whatever the code
  pub leaves_same : (code value : ℕ) → CacheInvariant c → Leaves c most given (answer code value c)
  leaves_same code value k = record {
    kept = λ _. k;
    listed = omega arith;
    refused = λ _. record { cache = refl; listed = refl };
    unlisted = λ _ _. refl;
  }

  -- done, or the key exists and was touched
  pub leaves_done : (o : Outcome) → (o.code ≡ 0) ⊎ (o.code ≡ 9) → length o.listed ≤ most → (given → CacheInvariant o.cache) → Leaves c most given o
  leaves_done o (inl done) few k = record {
    kept = k;
    listed = few;
    refused = λ high. absurd (omega (arith, done));
    unlisted = λ no _. absurd (no.not_done done);
  }
  leaves_done o (inr touched) few k = record {
    kept = k;
    listed = few;
    refused = λ high. absurd (omega (arith, touched));
    unlisted = λ no _. absurd (no.not_touched touched);
  }

  -- a page went, and an outcome of the cache without it
  pub leaves_listing : (rest : Cache) (n handle : ℕ) (o : Outcome) → suc n ≤ most → (11 ≤ o.code → ⊥) → Leaves rest n given o
      → Leaves c most given (listing (handle ∷ []) o)
  leaves_listing rest n handle o fewer low l = record {
    kept = l.kept;
    listed = omega (arith, l.listed);
    refused = λ high. absurd (low high);
    unlisted = λ _ q. absurd (cons≢nil q);
  }

-- if nothing is listed after evictions, there were none
none_gone : {target : ℕ} (c : Cache) (r : Room) → Makes target c r → (o : Outcome) → (following r o).listed ≡ [] → r.cache ≡ c
none_gone c r m o q = m.still (both_nil r.gone o.listed q).0

module _ {target : ℕ} {given : Type 0} (c : Cache) (r : Room) (m : Makes target c r) where
  -- pages were evicted, and then a code up to 10: done, or a refusal that leaves what they left
  pub leaves_evicted : (code : ℕ) (after : Cache) → code ≤ 10 → (Refusal code → after ≡ r.cache) → CacheInvariant after
      → Leaves c (held_in c) given (following r (answer code 0 after))
  leaves_evicted code after low same k = record {
    kept = λ _. k;
    listed = omega (arith, length-append r.gone [], m.count);
    refused = λ high. absurd (omega arith);
    unlisted = λ no q. same no ∙ none_gone c r m (answer code 0 after) q;
  }

  -- pages were evicted, and an outcome of the cache without them, which lists none
  pub leaves_following : (o : Outcome) → (11 ≤ o.code → Unchanged c (following r o)) → Leaves r.cache 0 given o
      → Leaves c (held_in c) given (following r o)
  leaves_following o refused l = record {
    kept = l.kept;
    listed = omega (arith, length-append r.gone o.listed, l.listed, m.count);
    refused = refused;
    unlisted = λ no q. l.unlisted no (both_nil r.gone o.listed q).1 ∙ none_gone c r m o q;
  }
