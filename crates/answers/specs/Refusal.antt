-- The table's number of each refusal, and of an answer.
use Rattle.std.specs.Prelude.{ℕ, ◌≡◌, ◌≢◌, Result, Ok, Err, MatchResult}
use Rattle.answers.specs.declared.refusal.Refusal.{Refusal}
use Rattle.answers.specs.declared.refusal.Refusal.TheVariants as R
use Rattle.answers.specs.declared.refusal.UnknownNumber.{UnknownNumber}
use Rattle.answers.specs.Numbers.{done}

-- the number that the table has for a refusal
abbrev pub number_of : Refusal → ℕ
number_of R.TagDiffers = 1
number_of R.TooLong = 2
number_of R.OtherLength = 3
number_of R.LineTooLong = 4
number_of R.NotDigit = 5
number_of R.OddDigits = 6
number_of R.FrameTooShort = 7
number_of R.DataTooLong = 8
number_of R.DataPastFrame = 9
number_of R.MessageTooLong = 10
number_of R.NoNewline = 11
number_of R.PlaceBeyond = 12
number_of R.BufferTooSmall = 13
number_of R.End = 14
number_of R.LineTooSmall = 15
number_of R.RollMark = 16
number_of R.AreaDiffers = 21
number_of R.ZeroNonce = 22
number_of R.DataLate = 23
number_of R.RecordClosed = 24

-- the number of an answer: done, or its refusal's
abbrev pub answer_number : {A : Type 0} → Result A Refusal → ℕ
answer_number (Ok x) = done
answer_number (Err refusal) = number_of refusal

-- the result is the refusal with this number, or the number, where no refusal has it
abbrev pub Numbers : ℕ → Result Refusal UnknownNumber → Type 0
Numbers n r =
    MatchResult r (λ refusal. number_of refusal ≡ n) (λ e. (e.0 ≡ n) × ((refusal : Refusal) → number_of refusal ≢ n))
