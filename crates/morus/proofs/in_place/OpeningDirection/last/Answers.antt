-- The last part is what `dec_partial` says of the rest.
use Rattle.std.proofs.Common.{◌≡◌, ◌-◌, length, take, drop, length-drop, arith}
use lib.Seq.{take_all}
use Rattle.morus.proofs.Blockwise.{last_opened}
use Rattle.morus.proofs.in_place.OpeningDirection.last.Goals as goal

pub returns : goal.returns
returns c =
    let m = c.args.mc.now in
    let i = c.args.at in
    let rest : take (length m - i) (drop i m) ≡ drop i m = take_all _ _ (rw length-drop (omega arith)) in
    last_opened _ _ _ c.requires.0 c.requires.1 (rw rest at c.dec_partial-end.ensures) c.store.ensures
