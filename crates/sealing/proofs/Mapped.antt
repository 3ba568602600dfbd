-- What `map_err` was given, from what it gives: an error is given its word's name, and a value stays.
use Rattle.std.proofs.Common.{ℕ, ◌≡◌, refl, sym, ap, ◌∙◌, arith, Result, Ok, Err, IsErrAnd, MatchResult}

told : {A E : Type 0} → Result A E → ℕ
told (Ok x) = 0
told (Err d) = 1

ok_is_no_error : {A E : Type 0} (x : A) (d : E) → ◌≡◌ {A = Result A E} (Ok x) (Err d) → ⊥
unfolding told
ok_is_no_error {A} {E} x d e = let n : ◌≡◌ {A = ℕ} 0 1 = ap (λ (r : Result A E). told r) e in omega arith

-- the value, and one of the kind where there is none
value : {A E : Type 0} → A → Result A E → A
value y (Ok x) = x
value y (Err d) = y

ok_same : {A D E : Type 0} (y x : A) → ◌≡◌ {A = Result A D} (Ok y) (Ok x) → ◌≡◌ {A = Result A E} (Ok y) (Ok x)
unfolding value
ok_same {A} {D} y x e = ap (λ (z : A). Ok z) (ap (λ (r : Result A D). value y r) e)

pub mapped_ok : {A E D : Type 0} (P : E → D → Type 0) (r : Result A E) {s : Result A D} {x : A}
    → MatchResult r (λ y. s ≡ Ok y) (λ e. IsErrAnd s (P e)) → s ≡ Ok x → r ≡ Ok x
mapped_ok P (Ok y) {s} {x} m p = ok_same y x (sym m ∙ p)
mapped_ok P (Err e) m p = absurd (rw p at m)

pub mapped_err : {A E D : Type 0} (P : E → D → Type 0) (r : Result A E) {s : Result A D} {d : D}
    → MatchResult r (λ y. s ≡ Ok y) (λ e. IsErrAnd s (P e)) → s ≡ Err d → (e : E) × (r ≡ Err e) × P e d
mapped_err P (Ok y) {s} {d} m p = absurd (ok_is_no_error y d (sym m ∙ p))
mapped_err P (Err e) m p = (e, refl, rw p at m)
