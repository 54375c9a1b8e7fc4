-- Whatever the record asks for, sound memory stays sound.
use Rattle.bench_calls.proofs.Running.{ran_sound}
use Rattle.bench_calls.proofs.run_one.Goals as goal

pub returns-clause-sound : goal.returns-clause-sound
returns-clause-sound c = ran_sound _ _ _ _ _ c.requires c.dispatch.ensures.ran
