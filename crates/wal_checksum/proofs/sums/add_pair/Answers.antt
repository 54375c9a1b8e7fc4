-- The four additions wrap (proofs/Wrapping.antt).
use Rattle.wal_checksum.proofs.Wrapping.{pair_added}
use Rattle.wal_checksum.proofs.sums.add_pair.Goals as goal

pub returns : goal.returns
returns c = pair_added c.args.x c.args.y c.args.s
