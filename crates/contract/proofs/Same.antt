-- The contract of a public call is deterministic: the memory is sound or not, and not both; if it isn't, nothing was altered; if
-- it is, the cache that it holds decides the answer, the list and, since a cache determines its memory, every lent word.
use mathlib.Core.Path.{◌≡◌, sym, ◌∙◌}
use Rattle.page.specs.declared.cache.PageCache.{PageCache}
use Rattle.model.specs.Cache.{Cache}
use Rattle.model.specs.Call.{Call}
use Rattle.answer.specs.declared.answered.Answered.{Answered}
use Rattle.answer.proofs.Once.{same_memory, same_list, same_answer}
use Rattle.contract.specs.Called.{State, CallEffect, refuses, acts, Called}

-- for every call, from every memory
pub called_same : {call : Call} {before a b : State} {head : PageCache} {r s : Answered} → Called call before head a r → Called call before head b s
    → (a ≡ b) × (r ≡ s)
called_same {call} {before} {a} {b} {head} {r} {s} x y = go x.effect y.effect
  where
    go : CallEffect call before head a r → CallEffect call before head b s → (a ≡ b) × (r ≡ s)
    go (refuses _ m p) (refuses _ n q) = (m ∙ sym n, p ∙ sym q)
    go (refuses n _ _) (acts h _) = absurd (n h)
    go (acts h _) (refuses n _ _) = absurd (n h)
    go (acts h f) (acts _ g) =
        let c : Cache = h.cache in
        let memory : a.memory ≡ b.memory = same_memory x.wide y.wide (f c h.holds) (g c h.holds) in
        let list : a.list ≡ b.list = same_list x.wide y.wide (f c h.holds) (g c h.holds) in
        (λ i. record { memory = memory i; list = list i }, same_answer x.wide y.wide (f c h.holds) (g c h.holds))
