-- The sealed line ends within what was lent, which is what stands behind the bytes that wait.
use Rattle.std.proofs.Common.{arith, ◌-◌}
use lib.ListN.{drop, length-take}
use Rattle.sealing.proofs.Exactly.{fits}
use Rattle.seal.specs.declared.output.TheConstants.{SIZE}
use Rattle.seal.proofs.output.Output.seal.Goals as goal

pub overflow_add-self : goal.overflow_add-self
overflow_add-self c =
    let s = c.args.self.now in
    omega (arith, fits c.in_ok-length.ensures, length-take (SIZE - s.count) (drop s.count s.buffer), s.within)

pub invariant_of-self-2 : goal.invariant_of-self-2
invariant_of-self-2 c =
    let s = c.args.self.now in
    record {
      within =
          omega (arith, fits c.in_ok-length.ensures, length-take (SIZE - s.count) (drop s.count s.buffer), s.within);
    }
