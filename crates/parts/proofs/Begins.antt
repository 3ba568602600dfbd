-- After the data of calls from the start the record is ready for the message, at the state after all of it.
use Prim.Native.Nat.{ℕ, ◌<◌}
use mathlib.Core.Path.{◌≡◌, refl}
use mathlib.Core.List.{List, flatten}
use native.Mathlib.Omega.{arith}
use lib.ListN.{length, replicate}
use Rattle.answers.specs.Sizes.{limit}
use Rattle.state.specs.declared.State.{State}
use Rattle.state.specs.Start.{start}
use Rattle.morus.specs.Blocks.{absorbed}
use Rattle.parts.specs.declared.work.Work.{Work}
use Rattle.parts.specs.Intake.{fresh, after}
use Rattle.parts.specs.Parts.{begun}
use Rattle.parts.specs.Cuts.{DataCalls}
use Rattle.parts.proofs.Bytewise.{fresh_state, fresh_count}
use Rattle.parts.proofs.Ready.{Ready, from_data}
use Rattle.parts.proofs.InARow.{DataDone, datas}

module _ (key nonce : List ℕ) (ds : List (List ℕ)) (hd : length (flatten ds) < limit) where
  abbrev s : State
  s = start key nonce

  abbrev d : List ℕ
  d = flatten ds

  -- the message begins at the state after the data
  pub taken : {ns : List ℕ} {w : Work} → DataCalls (begun nonce key) ds ns w → DataDone (fresh s) ds ns w
  unfolding begun
  taken c = datas c (fresh s) refl (unfold fresh in omega arith)

  pub begins : {ns : List ℕ} {w : Work} → DataCalls (begun nonce key) ds ns w
      → (ns ≡ replicate (length ds) 0) × Ready w (fresh (absorbed s d)) (length d)
  begins c =
      let v = taken c in
      (v.numbers, rw (fresh_state s d, fresh_count s d) at (from_data (after (fresh s) d) v.record_is))
