-- What the calls answer, by the numbers of the table. For each type that the code answers with, one definition gives
-- the number and every value of each of its cases; what is promised and proved speaks of these.
use Rattle.std.specs.Prelude.{ℕ, Result, Ok, Err}
use Rattle.answers.specs.Numbers.{done}
use Rattle.answers.specs.Refusal.{number_of, answer_number}
use Rattle.answers.specs.declared.refusal.Refusal.{Refusal}
use Rattle.journal.specs.declared.Opened.{Opened}
use Rattle.journal.specs.declared.Verdict.{Verdict}
use Rattle.journal.specs.declared.Answer.{Answer}

-- ---- reading: a refusal has no data and no message

abbrev pub n_of : Result Opened Refusal → ℕ
n_of (Ok opened) = opened.n
n_of (Err refusal) = 0

abbrev pub m_of : Result Opened Refusal → ℕ
m_of (Ok opened) = opened.m
m_of (Err refusal) = 0

-- of a line's text
pub record VerdictNumbers : Type 0 where
  pub number : ℕ
  pub n : ℕ
  pub m : ℕ
  pub at : ℕ

abbrev pub verdict_numbers : Verdict → VerdictNumbers
verdict_numbers v = record { number = answer_number v.opened; n = n_of v.opened; m = m_of v.opened; at = v.at }

-- at a place of a journal
pub record AnswerNumbers : Type 0 where
  pub number : ℕ
  pub next : ℕ
  pub n : ℕ
  pub m : ℕ
  pub at : ℕ

abbrev pub answer_numbers : Answer → AnswerNumbers
answer_numbers a =
    record { number = answer_number a.opened; next = a.next; n = n_of a.opened; m = m_of a.opened; at = a.at }

-- in many slots: a refusal keeps the place
pub record ManyNumbers : Type 0 where
  pub number : ℕ
  pub next : ℕ

abbrev pub many_numbers : (place : ℕ) → Result ℕ Refusal → ManyNumbers
many_numbers place (Ok next) = record { number = done; next = next }
many_numbers place (Err refusal) = record { number = number_of refusal; next = place }

-- ---- writing: a refusal has no line

pub record LineNumbers : Type 0 where
  pub number : ℕ
  pub length : ℕ

abbrev pub line_numbers : Result ℕ Refusal → LineNumbers
line_numbers (Ok size) = record { number = done; length = size }
line_numbers (Err refusal) = record { number = number_of refusal; length = 0 }
