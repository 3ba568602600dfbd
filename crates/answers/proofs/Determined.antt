-- Any two outcomes that a promise allows coincide: each says the number by an equation, or the refusal by its number.
use mathlib.Core.Path.{◌≡◌, ap, sym, ◌∙◌}
use Prim.Native.Nat.{ℕ}
use Rattle.std.specs.Prelude.{Result, Ok, Err}
use Rattle.answers.specs.declared.refusal.Refusal.{Refusal}
use Rattle.answers.specs.declared.refusal.UnknownNumber.{UnknownNumber}
use Rattle.answers.specs.Refusal.{number_of, answer_number, Numbers}
use Rattle.answers.proofs.Refusals.{number_of-injective}

pub refusal_number : (r : Refusal) {n₁ n₂ : ℕ} → n₁ ≡ number_of r → n₂ ≡ number_of r → n₁ ≡ n₂
refusal_number r p q = p ∙ sym q

pub number : {A : Type 0} (a : Result A Refusal) {n₁ n₂ : ℕ} → n₁ ≡ answer_number a → n₂ ≡ answer_number a → n₁ ≡ n₂
number a p q = p ∙ sym q

pub try_from : (n : ℕ) (r₁ r₂ : Result Refusal UnknownNumber) → Numbers n r₁ → Numbers n r₂ → r₁ ≡ r₂
try_from n (Ok a) (Ok b) p q = ap (λ (r : Refusal). Ok r) (number_of-injective a b (p ∙ sym q))
try_from n (Ok a) (Err b) p q = absurd (q.1 a p)
try_from n (Err a) (Ok b) p q = absurd (p.1 b q)
try_from n (Err a) (Err b) p q = ap (λ (x : ℕ). Err (record { 0 = x })) (p.0 ∙ sym q.0)
