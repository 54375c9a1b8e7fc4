-- The bytes are applied with the head that was read, and head and answer are written as that says.
use borrow.Author.Rules.{rules}
use Rattle.std.proofs.Common.{◌≡◌}
use Rattle.page_cache_c.proofs.Exporting.{applies_read}
use Rattle.page_cache_c.proofs.pc_apply.Goals as goal

pub returns : goal.returns
returns c =
    let numbers : c.in-Some.head.now ≡ c.args.head.now = search rules in
    applies_read (search rules) c.if-answer-ne-ANSWER.false (rw numbers at c.read_head.ensures) c.apply_to-answered.ensures (rw numbers at c.put_answered.ensures) c.put_answer.ensures
