-- Demand 3's ledger, of the memory. A call counts the touch that it does and the uses that its evictions take away, and no others
-- (the model's Exact); both follow from the memory before it and after it, since a memory determines its cache. The uses that fell and
-- those that are left are together never more than the touches (the model's Ledger).
use mathlib.Core.List.{List, [], ◌∷◌, ◌++◌}
use mathlib.Core.Option.{Option, none, some}
use mathlib.Core.Path.{◌≡◌, sym, ap, ◌∙◌, subst}
use Prim.Native.Nat.{ℕ, ◌+◌, ◌≤◌}
use native.Mathlib.Omega.{arith}
use Rattle.page.specs.declared.cache.PageCache.{PageCache}
use Rattle.model.specs.Cache.{Cache, fresh}
use Rattle.model.specs.Call.{Call}
use Rattle.model.specs.Row.{total}
use Rattle.model.specs.Step.{step, run, run_touches, run_falls}
use Rattle.model.specs.Uses.{Evicting, effect_of, touches_of, Fell}
use Rattle.model.proofs.Exact.{touches_exact, falls_exact, run_touches_none, run_touches_more, run_falls_none, run_falls_more}
use Rattle.model.proofs.Ledger.{run_ledger}
use Rattle.memory.specs.Memory.{Memory}
use Rattle.memory.specs.Holds.{Holds}
use Rattle.memory.proofs.Once.{holds_cache}
use Rattle.answer.specs.declared.answered.Answered.{Answered}
use Rattle.contract.specs.Called.{State, Called, History}
use Rattle.contract.specs.Called as history
use Rattle.contract.specs.Ledger.{Ledger, created, called}
use Rattle.contract.proofs.Refused.{called_kept, acted}
use Rattle.contract.proofs.Following.{history_holds}

-- the number of uses that fell is determined
fell_once : (x : Option Evicting) (after : Cache) (n k : ℕ) → Fell x after n → Fell x after k → n ≡ k
fell_once none after n k p q = omega (arith, p, q)
fell_once (some x) after n k p q = omega (arith, p, q)

-- ── one call, by what its memory holds before and after ──────────────────────
module _ {call : Call} {before after : State} {head : PageCache} {r : Answered} (x : Called call before head after r) (c c' : Cache)
    (h : Holds before.memory head c) (h' : Holds after.memory r.head c') where
  called_falls : Fell (effect_of call c).evicting c' (step call c).falls
  called_falls = subst (λ (d : Cache). Fell (effect_of call c).evicting d (step call c).falls) (holds_cache (acted x c h).follows.holds h')
      (falls_exact call c (called_kept x c h))

  called_fell : (n : ℕ) → Fell (effect_of call c).evicting c' n → (step call c).falls ≡ n
  called_fell n fell = fell_once (effect_of call c).evicting c' (step call c).falls n called_falls fell

-- ── all calls since creation ─────────────────────────────────────────────────
module _ {size capacity : ℕ} where
  -- a ledger with equal numbers
  renumbered : {calls : List Call} {m : Memory} {head : PageCache} {t t' f f' : ℕ} → t ≡ t' → f ≡ f'
      → Ledger size capacity calls m head t' f' → Ledger size capacity calls m head t f
  renumbered {calls} {m} {head} {t} {t'} {f} {f'} p q l =
      subst (λ (n : ℕ). Ledger size capacity calls m head n f) (sym p) (subst (λ (n : ℕ). Ledger size capacity calls m head t' n) (sym q) l)

  pub ledger_history : {calls : List Call} {m : Memory} {head : PageCache} {touches falls : ℕ}
      → Ledger size capacity calls m head touches falls → History size capacity calls m head
  ledger_history (created h) = history.created h
  ledger_history (called call past x c c' h h' fell q) = history.called call (ledger_history past) x

  -- what is read off the memory is what the model's run counts
  ledger_touches : {calls : List Call} {m : Memory} {head : PageCache} {touches falls : ℕ}
      → Ledger size capacity calls m head touches falls → run_touches calls (fresh size capacity) ≡ touches
  ledger_touches (created h) = run_touches_none (fresh size capacity)
  ledger_touches (called {calls} call past x c c' h h' fell q) =
      let same : run calls (fresh size capacity) ≡ c = holds_cache (history_holds (ledger_history past)) h in
      let this : (step call (run calls (fresh size capacity))).touches ≡ touches_of (effect_of call c).touched =
      ap (λ (d : Cache). (step call d).touches) same ∙ touches_exact call c (called_kept x c h) in
      omega (arith, run_touches_more calls call (fresh size capacity), ledger_touches past, this)

  ledger_falls : {calls : List Call} {m : Memory} {head : PageCache} {touches falls : ℕ}
      → Ledger size capacity calls m head touches falls → run_falls calls (fresh size capacity) ≡ falls
  ledger_falls (created h) = run_falls_none (fresh size capacity)
  ledger_falls (called {calls} call past x c c' h h' fell q) =
      let same : run calls (fresh size capacity) ≡ c = holds_cache (history_holds (ledger_history past)) h in
      let this : (step call (run calls (fresh size capacity))).falls ≡ fell =
      ap (λ (d : Cache). (step call d).falls) same ∙ called_fell x c c' h h' fell q in
      omega (arith, run_falls_more calls call (fresh size capacity), ledger_falls past, this)

  -- every history has its ledger
  pub history_has_ledger : {calls : List Call} {m : Memory} {head : PageCache} → History size capacity calls m head
      → Ledger size capacity calls m head (run_touches calls (fresh size capacity)) (run_falls calls (fresh size capacity))
  history_has_ledger (history.created h) =
      renumbered (run_touches_none (fresh size capacity)) (run_falls_none (fresh size capacity)) (created h)
  history_has_ledger (history.called {calls} call past x) =
      let made : Cache = fresh size capacity in
      let c : Cache = run calls made in
      let h = history_holds past in
      let h' = history_holds (history.called call past x) in
      let touches : run_touches (calls ++ call ∷ []) made ≡ run_touches calls made + touches_of (effect_of call c).touched =
      run_touches_more calls call made ∙ ap (λ (n : ℕ). run_touches calls made + n) (touches_exact call c (called_kept x c h)) in
      renumbered touches (run_falls_more calls call made)
      (called call (history_has_ledger past) x c (run (calls ++ call ∷ []) made) h h' (step call c).falls (called_falls x c _ h h'))

  -- demand 3: the uses that sweeps took away and the uses that the slots still have are together no more than the touches
  pub history_ledger : {calls : List Call} {m : Memory} {head : PageCache} {touches falls : ℕ}
      → Ledger size capacity calls m head touches falls → (c : Cache) → Holds m head c → falls + total c.row ≤ touches
  unfolding total
  history_ledger {calls} past c h =
      let made : Cache = fresh size capacity in
      let same : run calls made ≡ c = holds_cache (history_holds (ledger_history past)) h in
      let left : total (run calls made).row ≡ total c.row = ap (λ (d : Cache). total d.row) same in
      omega (arith, run_ledger calls made, left, ledger_touches past, ledger_falls past)
