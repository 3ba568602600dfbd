-- The line is the first of those that were left.
use Rattle.std.proofs.Common.{length, ap, arith, rules}
use Rattle.journal.proofs.OneByOne.{step}
use Rattle.journal.proofs.lines.LinesIterator.next.Goals as goal

-- it is read from the reader's place,
-- and the place that it gives is the reader's next
pub returns-clause-steps : goal.returns-clause-steps
returns-clause-steps c = step c.read_line-answer.result c.read_line-answer.ensures (omega arith) (omega arith)

pub returns-clause-goes : goal.returns-clause-goes
returns-clause-goes c =
    let s = step c.read_line-answer.result c.read_line-answer.ensures (omega arith) (omega arith) in
    let shorter = ap length s in search rules
