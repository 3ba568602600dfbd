-- A line is the first of those that are left, and the others are left behind it.
use Prim.Native.Nat.{ℕ, zero, suc, ◌-◌, ◌≤◌, ◌<◌}
use mathlib.Core.Path.{◌≡◌, refl, sym, ap, ap₂, ◌∙◌}
use mathlib.Core.Bool.{Bool, true, false}
use mathlib.Core.List.{List, [], ◌∷◌, ◌++◌, map}
use native.Mathlib.Omega.{arith}
use lib.ListN.{length}
use lib.Dec.{ltb}
use borrow.Author.Tests.{ltb-true, ltb-false, lt-ltb, ne_eqb}
use Rattle.answers.specs.Numbers.{end}
use Rattle.answers.specs.Sizes.{most_frame}
use Rattle.run.specs.Read.{Reading}
use Rattle.run.specs.Read as Read
use Rattle.run.specs.Run as Run
use Rattle.run.specs.Run.{Entry}
use Rattle.run.specs.Claims.{Moves, ended}
use Rattle.run.proofs.Rows.{at_end}
use Rattle.run.proofs.Progress.{moves}
use Rattle.journal.specs.declared.Answer.{Answer}
use Rattle.journal.specs.Numbers.{answer_numbers}
use Rattle.journal.specs.Reader.{read_text, read_at, run_from, run}
use Rattle.journal.specs.Promise.{reading_of, LineRead}
use Rattle.journal.specs.OneByOne.{reading_at, readings_from, readings, reading_in}
use Rattle.journal.proofs.Rows.{not_end}

module _ (key j : List ℕ) where
  onward : (place : ℕ) → place < length j
      → Moves j place (reading_at key j place).verdict.number (reading_at key j place).next
  onward place l = moves (read_text key) (not_end key) most_frame (omega arith) j place l

  -- more turns give no more lines
  enough : (k l place : ℕ) → length j - place ≤ k → length j - place ≤ l
      → readings_from key j k place ≡ readings_from key j l place
  unfolding readings_from
  enough zero zero place h i = refl
  enough zero (suc l) place h i = go (ltb place (length j)) refl
    where
      go : (b : Bool) → ltb place (length j) ≡ b → readings_from key j zero place ≡ readings_from key j (suc l) place
      go true e = absurd (omega (arith, h, ltb-true place (length j) e))
      go false e = rw e
  enough (suc k) zero place h i = go (ltb place (length j)) refl
    where
      go : (b : Bool) → ltb place (length j) ≡ b → readings_from key j (suc k) place ≡ readings_from key j zero place
      go true e = absurd (omega (arith, i, ltb-true place (length j) e))
      go false e = rw e
  enough (suc k) (suc l) place h i =
      go (enough k l (reading_at key j place).next) (ltb place (length j)) refl
    where
      go : (length j - (reading_at key j place).next ≤ k → length j - (reading_at key j place).next ≤ l
          → readings_from key j k (reading_at key j place).next ≡ readings_from key j l (reading_at key j place).next)
          → (b : Bool) → ltb place (length j) ≡ b
          → readings_from key j (suc k) place ≡ readings_from key j (suc l) place
      go ih true e =
          let m = onward place (ltb-true place (length j) e) in
          rw (e, ih (omega (arith, h, m.ahead, m.within)) (omega (arith, i, m.ahead, m.within)))
      go ih false e = rw e

  pub none_left : (place : ℕ) → length j ≤ place → readings key j place ≡ []
  unfolding readings_from
  none_left place h =
      let z : length j - place ≡ 0 = omega arith in
      rw z

  first : (place : ℕ) → place < length j
      → readings key j place ≡ reading_at key j place ∷ readings key j (reading_at key j place).next
  unfolding readings_from
  first place l = go (length j - place) refl
    where
      n : ℕ
      n = (reading_at key j place).next

      go : (k : ℕ) → length j - place ≡ k
          → readings_from key j (length j - place) place ≡ reading_at key j place ∷ readings key j n
      go zero e = absurd (omega (arith, e, l))
      go (suc k) e =
          let m = onward place l in
          rw (e, lt-ltb place (length j) l) (ap (λ (r : List Reading). reading_at key j place ∷ r)
          (enough k (length j - n) n (omega (arith, e, m.ahead, m.within)) (omega arith)))

pub step : {key j frame frame' : List ℕ} {place : ℕ} (a : Answer) → LineRead j place key frame (answer_numbers a) frame'
    → length frame ≡ most_frame → place < length j
    → readings key j place ≡ reading_in (record { answer = a; frame = frame' }) ∷ readings key j a.next
step {key} {j} {place = place} a h sized l =
    let is : reading_of (answer_numbers a) _ ≡ reading_at key j place =
    ap₂ reading_of h.answer h.buffer ∙ ap (λ (s : ℕ). read_at key j place s) sized in
    first key j place l
    ∙ ap₂ (λ (x : Reading) (r : List Reading). x ∷ r) (sym is) (ap (λ (x : Reading). readings key j x.next) (sym is))

-- the run's answers are these, and then the end answer
module _ (key j : List ℕ) where
  run_readings : (k place : ℕ) → place ≤ length j → length j - place < k
      → map (λ (e : Entry). e.reading) (run_from key j most_frame k place)
      ≡ readings_from key j k place ++ ((ended j most_frame).reading ∷ [])
  unfolding Run.run_from readings_from Read.refused
  run_readings zero place h l = absurd (omega (arith, l))
  run_readings (suc k) place h l = go (run_readings k (reading_at key j place).next) (ltb place (length j)) refl
    where
      n : ℕ
      n = (reading_at key j place).next

      go : (n ≤ length j → length j - n < k → map (λ (e : Entry). e.reading) (run_from key j most_frame k n)
          ≡ readings_from key j k n ++ ((ended j most_frame).reading ∷ []))
          → (b : Bool) → ltb place (length j) ≡ b
          → map (λ (e : Entry). e.reading) (run_from key j most_frame (suc k) place)
          ≡ readings_from key j (suc k) place ++ ((ended j most_frame).reading ∷ [])
      go ih true e =
          let m = onward key j place (ltb-true place (length j) e) in
          rw (e, ne_eqb (reading_at key j place).verdict.number end m.not_end)
          (ap (λ (r : List Reading). reading_at key j place ∷ r) (ih m.within (omega (arith, l, m.ahead))))
      go ih false e =
          let p : place ≡ length j = omega (arith, h, ltb-false place (length j) e) in
          rw (e, at_end (read_text key) j place most_frame (omega arith) p, p)

  pub lines_run : map (λ (e : Entry). e.reading) (run key j most_frame)
      ≡ readings key j 0 ++ ((ended j most_frame).reading ∷ [])
  unfolding Run.run
  lines_run =
      run_readings (suc (length j)) 0 (omega arith) (omega arith)
      ∙ ap (λ (r : List Reading). r ++ ((ended j most_frame).reading ∷ []))
      (enough key j (suc (length j)) (length j - 0) 0 (omega arith) (omega arith))
