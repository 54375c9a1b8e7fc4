-- The first of the sixteen at which the test comes out.
use Rattle.std.proofs.Common.{rules}
use Rattle.std.proofs.iter.runs.Sources.{ranges}
use Rattle.btree_format.specs.Rules.{LikeMagic}
use Rattle.btree_format.proofs.Searching.{finds_from}
use Rattle.btree_format.proofs.magic.first_unlike.Goals as goal

pub returns : goal.returns
returns c = finds_from (LikeMagic c.args.image.now) 16 c.find.result (search (rules, ranges))
