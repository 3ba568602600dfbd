-- The last part as `enc` does it, in its two steps.
use Rattle.std.proofs.Common.{refl}
use Rattle.state.specs.Block.{sealing}
use Rattle.morus.proofs.Blockwise.{sealed_done}
use Rattle.morus.proofs.in_place.SealingDirection.last.Goals as goal

pub returns : goal.returns
unfolding sealing
returns c =
    sealed_done _ _ _ _ c.requires.0 refl c.block-src.ensures
    (rw (c.update.ensures, c.from_bytes.ensures), c.masked.ensures) c.store.ensures
