-- A call that leaves the cache as it was, and lists nothing, leaves every lent word as it was: a cache determines its memory.
-- So a refusal by a test alters nothing, nor does any refusal that lists nothing, every answer from 11 on among them.
use mathlib.Core.List.{List, [], ◌++◌}
use mathlib.Core.Logic.{◌≢◌}
use mathlib.Core.Path.{◌≡◌, ap, ◌∙◌, subst}
use Prim.Native.Nat.{ℕ, suc, ◌≤◌}
use native.Mathlib.Omega.{arith}
use lib.ListN.{length, drop}
use Rattle.page.specs.declared.cache.PageCache.{PageCache}
use Rattle.model.specs.Cache.{Cache}
use Rattle.model.specs.Call.{Call, Outcome, answer}
use Rattle.model.specs.Limits.{CacheInvariant}
use Rattle.model.specs.Step.{step}
use Rattle.model.specs.Tests.{refusal}
use Rattle.model.proofs.Kept.{refused_unchanged, unlisted_unchanged, high_code_unchanged}
use Rattle.model.proofs.KeptInsertion.{no_handles}
use Rattle.model.proofs.KeptLeaves.{Refusal}
use Rattle.memory.specs.Holds.{Holds}
use Rattle.memory.proofs.Once.{holds_memory}
use Rattle.memory.proofs.OnceKept.{holds_kept}
use Rattle.answer.specs.Answer.{MatchesOutcome, code_of}
use Rattle.answer.specs.declared.answered.Answered.{Answered}
use Rattle.contract.specs.Called.{State, CallEffect, refuses, acts, Called, Unaltered}

module _ {call : Call} {before after : State} {head : PageCache} {r : Answered} (x : Called call before head after r) (c : Cache)
    (h : Holds before.memory head c) where
  -- what the memory holds is within the model's limits
  pub called_kept : CacheInvariant c
  called_kept = holds_kept x.typed.slots h x.typed.estimate

  -- memory that holds a cache is sound, so the call acts
  pub acted : MatchesOutcome (step call c) before.list after.memory after.list r
  acted = go x.effect
    where
      go : CallEffect call before head after r → MatchesOutcome (step call c) before.list after.memory after.list r
      go (refuses n _ _) = absurd (n (record { cache = c; holds = h }))
      go (acts _ f) = f c h

  pub unaltered : (step call c).cache ≡ c → (step call c).listed ≡ [] → Unaltered before head after r
  unaltered same none =
      let holds : Holds after.memory r.head c = subst (λ (d : Cache). Holds after.memory r.head d) same acted.follows.holds in
      let once = holds_memory x.wide x.typed.marks holds h in
      let memory : after.memory ≡ before.memory = once.0 in
      let list : after.list ≡ before.list = acted.wrote.list ∙ ap (λ (l : List ℕ). l ++ drop (length l) before.list) none in
      record { state = λ i. record { memory = memory i; list = list i }; head = once.1 }

  -- 15, 2, 3 and 12
  pub test_unaltered : (n : ℕ) → refusal call c ≡ suc n → Unaltered before head after r
  test_unaltered n q =
      let refused : step call c ≡ answer (suc n) 0 c = refused_unchanged call c n q in
      unaltered (ap (λ (o : Outcome). o.cache) refused) (ap (λ (o : Outcome). o.listed) refused)

  -- any code but 0 and 9, with nothing listed: Full (8) and a pending resize (10) among them
  pub unlisted_unaltered : code_of r.answer ≢ 0 → code_of r.answer ≢ 9 → r.listed ≡ 0 → Unaltered before head after r
  unlisted_unaltered not_done not_touched unlisted =
      let f = acted.follows in
      let none : (step call c).listed ≡ [] = no_handles (step call c).listed (omega (arith, f.listed, unlisted)) in
      let no : Refusal (step call c).code = record { not_done = λ q. not_done (f.code ∙ q); not_touched = λ q. not_touched (f.code ∙ q) } in
      unaltered (unlisted_unchanged call c called_kept no none) none

  -- 11, 12, 13, 14, 15, 18 and 19 list nothing
  pub code_unaltered : 11 ≤ code_of r.answer → Unaltered before head after r
  code_unaltered high =
      let unchanged = high_code_unchanged call c called_kept (subst (λ (n : ℕ). 11 ≤ n) acted.follows.code high) in
      unaltered unchanged.cache unchanged.listed
