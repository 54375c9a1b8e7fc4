-- Every call: the tests, then the rules. And runs of calls from creation.
use Rattle.std.specs.Prelude.{List, [], ◌∷◌, ℕ, zero, suc, ◌+◌}
use Rattle.model.specs.Cache.{Cache, with_spill, fresh}
use Rattle.model.specs.Call.{Call, create, insert, lookup, peek, release, delete, resize, truncate, remove_frames, clear, notify_dirty, notify_spilled, write, spill, evict_one, switch, Outcome, answer}
use Rattle.model.specs.Rules.{on_insert, on_lookup, on_peek, on_release, on_delete, on_resize, on_truncate, on_remove_frames, on_clear, on_dirty, on_spilled, on_write, on_evict_one}
use Rattle.model.specs.Spill.{on_spill}
use Rattle.model.specs.Tests.{refusal}

-- the rules
unfoldable pub act : Call → Cache → Outcome
act (create capacity) c = answer 0 0 (fresh c.size capacity)
act (insert how key handle state places) c = on_insert key handle state how c
act (lookup key places) c = on_lookup key c
act (peek key touch) c = on_peek key touch c
act (release key) c = on_release key c
act (delete key places) c = on_delete key c
act (resize capacity places) c = on_resize capacity c
act (truncate limit places) c = on_truncate limit c
act (remove_frames limit places) c = on_remove_frames limit c
act (clear dirty_too places) c = on_clear dirty_too c
act (notify_dirty key) c = on_dirty key c
act (notify_spilled key) c = on_spilled key c
act (write key state) c = on_write key state c
act (spill most places) c = on_spill most c
act (evict_one places) c = on_evict_one c
act (switch on) c = answer 0 0 (with_spill on c)

-- a call that fails a test changes nothing
abbrev pub tested : ℕ → Call → Cache → Outcome
tested zero call c = act call c
tested (suc n) call c = answer (suc n) 0 c

unfoldable pub step : Call → Cache → Outcome
step call c = tested (refusal call c) call c

-- ── runs ─────────────────────────────────────────────────────────────────────
-- the cache after the calls, one after another
unfoldable pub run : List Call → Cache → Cache
run [] c = c
run (call ∷ calls) c = run calls (step call c).cache

-- all the touches of a run, and all the uses that its sweeps took away
unfoldable pub run_touches : List Call → Cache → ℕ
run_touches [] c = 0
run_touches (call ∷ calls) c = (step call c).touches + run_touches calls (step call c).cache

unfoldable pub run_falls : List Call → Cache → ℕ
run_falls [] c = 0
run_falls (call ∷ calls) c = (step call c).falls + run_falls calls (step call c).cache
