-- Sound memory meets what the functions of this crate require.
use mathlib.Core.Path.{refl}
use Rattle.page.specs.declared.cache.PageCache.{PageCache}
use Rattle.memory.specs.Memory.{Memory}
use Rattle.memory.specs.Holds.{Sound}
use Rattle.spilling.specs.Parts.{PartsOfSound}

pub sound_readable : {m : Memory} {head : PageCache} → Sound m head → PartsOfSound m.slots m.by_key head.held
sound_readable {m} {head} s = record { by_handle = m.by_handle; marks = m.marks; head = head; sound = s; same = refl }
