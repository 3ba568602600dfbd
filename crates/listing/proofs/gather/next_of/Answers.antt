-- The end answer is known by its number.
use Rattle.std.proofs.Common.{refl}
use borrow.Author.Tests.{ne_eqb}
use Rattle.answers.specs.Refusal.{number_of}
use Rattle.answers.specs.declared.refusal.Refusal.TheVariants.{End}
use Rattle.answers.proofs.Refusals.{number_of-injective}
use Rattle.answers.specs.Numbers.{end}
use Rattle.listing.proofs.gather.next_of.Goals as goal

pub returns-in-End : goal.returns-in-End
returns-in-End c = rw (c.in-Err.is, c.in-End.is) refl

pub returns-in_default : goal.returns-in_default
returns-in_default c =
    let r = c.in-Err.refusal in
    rw (c.in-Err.is, ne_eqb (number_of r) end (λ e. c.in_default.not-End (number_of-injective r End e))) refl
