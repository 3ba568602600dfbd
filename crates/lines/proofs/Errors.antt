-- What is wrong with a word, by its number: no two of them share one, and none has that of an answer that is Ok. So an
-- answer is told by what is said of it.
use Rattle.std.proofs.Common.{ℕ, ◌≡◌, refl, sym, ap, ◌∙◌, arith, List, Result, Ok, Err}
use Rattle.std.specs.Prelude.{cond, ◌==◌}
use Rattle.lines.specs.declared.error.WordError.{WordError}
use Rattle.lines.specs.declared.error.WordError.TheVariants as W
use Rattle.lines.specs.WordNumber.{number_of}
use Rattle.lines.specs.Claims.{Numbered}
use Rattle.lines.specs.Said.{Said, Sixteen, said_by, sixteen_by}

-- the error of a number; what stands for a number that none has is never used
abbrev error_of : ℕ → WordError
error_of n =
    cond (n == 254) W.Nothing (cond (n == 5) W.NotDigit (cond (n == 6) W.Odd (cond (n == 255) W.NoRoom W.NotSixteen)))

back : (e : WordError) → error_of (number_of e) ≡ e
back W.Nothing = refl
back W.NotDigit = refl
back W.Odd = refl
back W.NoRoom = refl
back W.NotSixteen = refl

pub number_of-injective : (a b : WordError) → number_of a ≡ number_of b → a ≡ b
number_of-injective a b e = sym (back a) ∙ ap error_of e ∙ back b

pub number_of-nonzero : (e : WordError) → number_of e ≡ 0 → ⊥
number_of-nonzero e x = grind arith

pub said_by-injective : (r₁ r₂ : Result ℕ WordError) → said_by r₁ ≡ said_by r₂ → r₁ ≡ r₂
said_by-injective (Ok m) (Ok n) p = ap (λ (x : ℕ). Ok x) (ap (λ (s : Said). s.count) p)
said_by-injective (Ok m) (Err e) p = absurd (number_of-nonzero e (sym (ap (λ (s : Said). s.number) p)))
said_by-injective (Err e) (Ok n) p = absurd (number_of-nonzero e (ap (λ (s : Said). s.number) p))
said_by-injective (Err d) (Err e) p =
    ap (λ (x : WordError). Err x) (number_of-injective d e (ap (λ (s : Said). s.number) p))

pub sixteen_by-injective : (r₁ r₂ : Result (List ℕ) WordError) → sixteen_by r₁ ≡ sixteen_by r₂ → r₁ ≡ r₂
sixteen_by-injective (Ok a) (Ok b) p = ap (λ (x : List ℕ). Ok x) (ap (λ (s : Sixteen). s.bytes) p)
sixteen_by-injective (Ok a) (Err e) p = absurd (number_of-nonzero e (sym (ap (λ (s : Sixteen). s.number) p)))
sixteen_by-injective (Err e) (Ok b) p = absurd (number_of-nonzero e (ap (λ (s : Sixteen). s.number) p))
sixteen_by-injective (Err d) (Err e) p =
    ap (λ (x : WordError). Err x) (number_of-injective d e (ap (λ (s : Sixteen). s.number) p))

pub numbered : Numbered
numbered = record { nothing = refl; not_digit = refl; odd = refl; no_room = refl; not_sixteen = refl }
