-- What is copied over zeros has zeros behind it.
use Rattle.std.proofs.Common.{◌∙◌, drop}
use Rattle.buffers.proofs.Padding.{over_zeros, padded_first}
use Rattle.buffers.proofs.copying.padded.Goals as goal

pub returns : goal.returns
returns g c =
    c.copy_part.ensures
    ∙ over_zeros _ c.args.src.now c.args.from _
    ∙ padded_first _ (drop c.args.from c.args.src.now)
