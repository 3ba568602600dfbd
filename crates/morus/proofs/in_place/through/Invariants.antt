-- Finishing behind the first k pairs of blocks gives what was asked.
use Rattle.std.proofs.Common.{◌*◌}
use Rattle.morus.proofs.Blockwise.{Going}
use Rattle.morus.proofs.in_place.through.Given as goal

abbrev pub invariant-loop-k : goal.invariant-loop-k
invariant-loop-k g l = Going g.D.Direction.after l.fn.s l.fn.mc l.st l.mc (64 * l.k)
