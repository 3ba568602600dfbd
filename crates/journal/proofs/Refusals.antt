-- What is answered is known by its numbers.
use Rattle.std.proofs.Common.{ℕ, ◌≡◌, ap, ap₂, arith}
use Rattle.std.specs.Prelude.{Result, Ok, Err}
use Rattle.answers.specs.Refusal.{answer_number}
use Rattle.answers.specs.declared.refusal.Refusal.{Refusal}
use Rattle.answers.proofs.Refusals.{number_of-positive, number_of-injective}
use Rattle.journal.specs.declared.Opened.{Opened}
use Rattle.journal.specs.declared.Verdict.{Verdict}
use Rattle.journal.specs.declared.Answer.{Answer}
use Rattle.journal.specs.Numbers.{n_of, m_of, VerdictNumbers, verdict_numbers, AnswerNumbers, answer_numbers}
use Rattle.journal.specs.Numbers.{LineNumbers, line_numbers, ManyNumbers, many_numbers}

opened_is : (a b : Result Opened Refusal) → answer_number a ≡ answer_number b → n_of a ≡ n_of b
    → m_of a ≡ m_of b → a ≡ b
opened_is (Ok a) (Ok b) k n m = ap₂ (λ (x y : ℕ). Ok (record { n = x; m = y })) n m
opened_is (Ok a) (Err r) k n m = absurd (omega (arith, k, number_of-positive r))
opened_is (Err r) (Ok b) k n m = absurd (omega (arith, k, number_of-positive r))
opened_is (Err r) (Err s) k n m = ap Err (number_of-injective r s k)

pub verdict_is : (a b : Verdict) → verdict_numbers a ≡ verdict_numbers b → a ≡ b
verdict_is a b e =
    let o = opened_is a.opened b.opened (ap (λ (v : VerdictNumbers). v.number) e) (ap (λ (v : VerdictNumbers). v.n) e)
    (ap (λ (v : VerdictNumbers). v.m) e) in
    ap₂ (λ (x : Result Opened Refusal) (y : ℕ). record { opened = x; at = y }) o (ap (λ (v : VerdictNumbers). v.at) e)

pub answer_is : (a b : Answer) → answer_numbers a ≡ answer_numbers b → a ≡ b
answer_is a b e =
    let o = opened_is a.opened b.opened (ap (λ (v : AnswerNumbers). v.number) e) (ap (λ (v : AnswerNumbers). v.n) e)
    (ap (λ (v : AnswerNumbers). v.m) e) in
    let v : record { opened = a.opened; at = a.at } ≡ record { opened = b.opened; at = b.at } =
    ap₂ (λ (x : Result Opened Refusal) (y : ℕ). record { opened = x; at = y }) o (ap (λ (v : AnswerNumbers). v.at) e) in
    ap₂ (λ (w : Verdict) (n : ℕ). record { opened = w.opened; next = n; at = w.at }) v
    (ap (λ (v : AnswerNumbers). v.next) e)

pub line_is : (a b : Result ℕ Refusal) → line_numbers a ≡ line_numbers b → a ≡ b
line_is (Ok m) (Ok n) e = ap (λ (v : LineNumbers). Ok v.length) e
line_is (Ok m) (Err r) e = absurd (omega (arith, ap (λ (v : LineNumbers). v.number) e, number_of-positive r))
line_is (Err r) (Ok n) e = absurd (omega (arith, ap (λ (v : LineNumbers). v.number) e, number_of-positive r))
line_is (Err r) (Err s) e = ap Err (number_of-injective r s (ap (λ (v : LineNumbers). v.number) e))

pub many_is : (place : ℕ) (a b : Result ℕ Refusal) → many_numbers place a ≡ many_numbers place b → a ≡ b
many_is place (Ok m) (Ok n) e = ap (λ (v : ManyNumbers). Ok v.next) e
many_is place (Ok m) (Err r) e = absurd (omega (arith, ap (λ (v : ManyNumbers). v.number) e, number_of-positive r))
many_is place (Err r) (Ok n) e = absurd (omega (arith, ap (λ (v : ManyNumbers). v.number) e, number_of-positive r))
many_is place (Err r) (Err s) e = ap Err (number_of-injective r s (ap (λ (v : ManyNumbers). v.number) e))
