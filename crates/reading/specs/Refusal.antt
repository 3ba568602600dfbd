-- The table's number of each refusal, and of a check: 0 where nothing is refused.
use Rattle.std.specs.Prelude.{ℕ, Result, Ok, Err}
use Rattle.reading.specs.declared.refusal.Refusal.{Refusal}
use Rattle.reading.specs.declared.refusal.Refusal.TheVariants as R

abbrev pub number_of : Refusal → ℕ
number_of R.NotTwenty = 17
number_of R.CounterTooLarge = 18
number_of R.ActiveAbove = 19
number_of R.ResidentZero = 20

abbrev pub check_number : Result (Unit {0}) Refusal → ℕ
check_number (Ok x) = 0
check_number (Err refusal) = number_of refusal
