-- What one call gives: of a record in its data, and of one that is ready for the message's bytes.
use Prim.Native.Nat.{ℕ, ◌+◌, ◌≤◌, ◌<◌}
use mathlib.Core.Path.{◌≡◌, ◌∙◌}
use mathlib.Core.List.{List}
use native.Mathlib.Omega.{arith}
use lib.ListN.{length}
use borrow.Author.Tests.{lt-ltb, le-ltb}
use Rattle.answers.specs.Sizes.{limit}
use Rattle.answers.specs.Rows.{first_failing}
use Rattle.state.specs.Tag.{tag}
use Rattle.morus.specs.Seal.{lengths}
use Rattle.morus.specs.Morus.{length_rows, tag_of, tag_behind}
use Rattle.parts.specs.declared.intake.Intake.{Intake}
use Rattle.parts.specs.declared.work.Work.{Work}
use Rattle.parts.specs.Intake.{after, covering, checking, at_end}
use Rattle.parts.specs.Parts.{data_rows, text_rows, own_tag, DataTaken, PartSealed, PartChecked}
use Rattle.parts.proofs.Ready.{in_data, in_text, Ready}

-- One data part.
pub data_call : {r : Intake} {d : List ℕ} {n : ℕ} {w : Work} → DataTaken (in_data r) d n w → r.count + length d < limit
    → (n ≡ 0) × (w ≡ in_data (after r d))
unfolding data_rows length_rows first_failing
data_call {r} {d} {n} {w} p h =
    let e : n ≡ 0 = p.answer ∙ rw (lt-ltb (r.count + length d) limit h) in
    (e, rw e at p.after)

pub data_over : {r : Intake} {d : List ℕ} {n : ℕ} {w : Work} → DataTaken (in_data r) d n w → limit ≤ r.count + length d
    → (n ≡ 2) × (w ≡ in_data r)
unfolding data_rows length_rows first_failing
data_over {r} {d} {n} {w} p h =
    let e : n ≡ 2 = p.answer ∙ rw (le-ltb (r.count + length d) limit h) in
    (e, rw e at p.after)

-- One message part, or ciphertext part; and the tag.
module _ {w : Work} {r : Intake} {a : ℕ} (v : Ready w r a) (ha : a < limit) where
  pub text_number : (n : ℕ) → r.count + n < limit → first_failing (text_rows w n) ≡ 0
  unfolding text_rows length_rows first_failing
  text_number n h = rw (v.in_it, v.live, lt-ltb a limit ha, lt-ltb (r.count + n) limit h)

  pub seal_call : {m m' : List ℕ} {n : ℕ} {w' : Work} → PartSealed w m n w' m' → r.count + length m < limit
      → (n ≡ 0) × (w' ≡ in_text (after r m) a) × (m' ≡ covering r m)
  seal_call {m} p h =
      let e = p.answer ∙ text_number (length m) h in
      (e, rw (e, v.in_it) at p.after, rw (e, v.in_it) at p.part)

  pub check_call : {c : List ℕ} {n : ℕ} {w' : Work} → PartChecked w c n w' → r.count + length c < limit
      → (n ≡ 0) × (w' ≡ in_text (checking r c) a)
  check_call {c} p h =
      let e = p.answer ∙ text_number (length c) h in
      (e, rw (e, v.in_it) at p.after)

  pub text_over : (n : ℕ) → limit ≤ r.count + n → first_failing (text_rows w n) ≡ 2
  unfolding text_rows length_rows first_failing
  text_over n h = rw (v.in_it, v.live, lt-ltb a limit ha, le-ltb (r.count + n) limit h)

  module _ (h : r.count < limit) where
    pub tag_number : first_failing (text_rows w 0) ≡ 0
    tag_number = text_number 0 (omega arith)

    pub own_tag_is : own_tag w ≡ tag (at_end r) (lengths a r.count)
    unfolding own_tag tag_behind tag_of length_rows first_failing
    own_tag_is = rw (v.in_it, lt-ltb a limit ha, lt-ltb r.count limit h)
