-- A pool of 1,024 words has 256 slots.
use Rattle.std.proofs.Common.{arith}
use Rattle.pool.proofs.Packing.{entries_whole}
use Rattle.replay.proofs.cache.Cache.hand_key.Goals as goal

pub load-requires : goal.load-requires
load-requires c = omega (arith, entries_whole 256 c.args.self.now.slots (omega arith))
