-- The contract of `apply` is deterministic: the bytes decide what is asked for, a call has one outcome, a creation has one, and so
-- has the refusal of a bad record.
use mathlib.Core.List.{List}
use mathlib.Core.Path.{◌≡◌, sym, ap, ◌∙◌}
use Prim.Native.Nat.{ℕ}
use lib.ListN.{length}
use Rattle.page.specs.declared.cache.PageCache.{PageCache}
use Rattle.creating.specs.Creation as creation_of
use Rattle.creating.proofs.NewPool.{SameCreation, created_same}
use Rattle.answer.specs.declared.answered.Answered.{Answered}
use Rattle.contract.specs.Called.{State}
use Rattle.contract.proofs.Same.{called_same}
use Rattle.replay_record.specs.Fields.{decoded}
use Rattle.replay_record.specs.Request.{Request, none, creation, call, request_in}
use Rattle.dispatch.specs.Runs.{answered_as}
use Rattle.apply.specs.Applied.{Meets, Applied}

module _ (before : State) (head : PageCache) {a b : State} {r s : Answered} where
  meets_same : (x : Request) → Meets x before head a r → Meets x before head b s → (a ≡ b) × (r ≡ s)
  meets_same none p q = (p.state ∙ sym q.state, p.answer ∙ sym q.answer)
  meets_same (creation capacity) p q =
      let same : SameCreation p.makes.made a.memory q.makes.made b.memory =
      created_same before.memory capacity p.makes.made q.makes.made a.memory b.memory p.makes.creates q.makes.creates in
      let list : a.list ≡ b.list = p.list ∙ sym q.list in (
        λ i. record { memory = same.memory i; list = list i },
        p.makes.answer ∙ ap (λ (m : creation_of.Creation). answered_as m head) same.answer ∙ sym q.makes.answer,
      )
  meets_same (call x) p q = called_same p q

-- for any bytes, on any memory
pub applied_same : {bytes : List ℕ} {before a b : State} {head : PageCache} {r s : Answered} → Applied bytes before head a r
    → Applied bytes before head b s → (a ≡ b) × (r ≡ s)
applied_same {bytes} {before} {head = head} p q = meets_same before head (request_in (decoded bytes) (length before.list)) p.meets q.meets
