-- One block of a buffer in place.
use Rattle.std.specs.Prelude.{ℕ, ◌≡◌, ◌-◌, min, List, length, drop}
use Rattle.std.proofs.Math.Seq.{paste}
use Rattle.state.specs.declared.State.{State}
use Rattle.state.specs.Xor.{xor_lists}
use Rattle.state.specs.Block.{stream}

-- The block of m from byte i on, or what is left of one, is xored with the key stream, and goes into the state by f.
pub record BlockDone (f : State → List ℕ → State) (s : State) (m : List ℕ) (i : ℕ) (s' : State) (m' : List ℕ) : Type 0 where
  pub state : s' ≡ f s (drop i m)
  pub bytes : m' ≡ paste m i (xor_lists (drop i m) (stream s)) (min (length m - i) 32)
