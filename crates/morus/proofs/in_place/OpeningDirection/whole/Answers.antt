-- The part of 32 bytes is the block, and what `dec` leaves there is pasted over it.
use Rattle.std.proofs.Common.{◌≡◌, ◌+◌, ◌-◌, refl, take, drop, length-drop, arith, sym}
use Rattle.std.proofs.lemmas.Slice.{put_mid-paste}
use Rattle.buffers.specs.Bytes.{padded}
use Rattle.buffers.proofs.Padding.{padded_take}
use Rattle.morus.proofs.Blockwise.{opened_done, out_length}
use Rattle.morus.proofs.in_place.OpeningDirection.whole.Goals as goal

pub returns : goal.returns
returns c =
    let m = c.args.mc.now in
    let at = c.args.at in
    let e : at + 32 - at ≡ 32 = omega arith in
    let part : take (at + 32 - at) (drop at m) ≡ padded 32 (drop at m) =
    rw e (sym (padded_take 32 (drop at m) (rw length-drop (omega (arith, c.requires))))) in
    opened_done m _ at c.requires part (c.dec_whole.ensures.state, refl)
    (put_mid-paste at (at + 32 - at) m _ _ 32 c.dec_whole.ensures.bytes (sym e) (out_length _ _ part refl))
