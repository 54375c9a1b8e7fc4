-- The table of examples: every run gives what the table says, by computation.
use mathlib.Core.List.{map}
use mathlib.Core.Path.{◌≡◌, refl}
use Rattle.model.specs.Row.{find, change, without, sort_in, sorted_by_key, those}
use Rattle.model.specs.Sweep.{pass, lower, goes_now, looks, sweep, falls, sweep_falls}
use Rattle.model.specs.Cache.{slot_taken, free_from, lowest_free, enter_row}
use Rattle.model.specs.Tests.{under_other, refusal}
use Rattle.model.specs.Rooms.{evictions, make_room}
use Rattle.model.specs.Rules.{on_insert, delete_each}
use Rattle.model.specs.Spill.{needs_spill, selection}
use Rattle.model.specs.Step.{act, step, run, run_touches, run_falls}
use Rattle.model.specs.Examples.{examples, answers, comes_to}

pub examples_right : map comes_to examples ≡ map (λ x. x.shows) examples
unfolding find change without sort_in sorted_by_key those pass lower goes_now looks sweep falls sweep_falls slot_taken free_from lowest_free enter_row under_other refusal evictions make_room on_insert delete_each needs_spill selection act step run run_touches run_falls answers comes_to
examples_right = refl
