-- A sum past usize counts as the largest number there is: both are past the limit.
use Rattle.std.proofs.Common.{◌≡◌, ◌+◌, Bool, true, false, refl, arith, ltb, ltb-true, ltb-false, lt-ltb}
use borrow.Author.Tests.{le-ltb}
use Rattle.answers.specs.Sizes.{limit}
use Rattle.answers.specs.Rows.{first_failing}
use Rattle.morus.specs.Morus.{length_rows}
use Rattle.parts.proofs.work.check_totals.Goals as goal

pub returns : goal.returns
unfolding length_rows first_failing
returns c = rw (go (ltb (c.args.count + c.args.n) limit) refl) at c.check_lengths.ensures
  where
    go : (b : Bool) → ltb (c.args.count + c.args.n) limit ≡ b → ltb c.saturating_add.result limit ≡ b
    go true e = lt-ltb _ _ (omega (arith, ltb-true _ _ e))
    go false e = le-ltb _ _ (omega (arith, ltb-false _ _ e))
