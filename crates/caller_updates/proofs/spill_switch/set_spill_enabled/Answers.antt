-- The head alone says whether spilling is on.
use mathlib.Core.Path.{◌≡◌, refl, ◌∙◌}
use mathlib.Core.Bool.{Bool, true, false, cond}
use mir.Val.{bool_byte}
use Rattle.answer.proofs.Steps.{follows_told}
use Rattle.caller_updates.proofs.Heads.{switch_follows}
use Rattle.caller_updates.proofs.spill_switch.set_spill_enabled.Goals as goal

-- the byte of a Bool is what the head keeps
switch_is : (on : Bool) → bool_byte on ≡ cond on 1 0
switch_is true = refl
switch_is false = refl

pub returns : goal.returns
returns c = λ m w H. follows_told c.plain.ensures (switch_follows H _ (c.from.ensures ∙ switch_is c.args.on))
