-- Std's number of the bytes with zeros behind them.
use Rattle.buffers.proofs.Words.{le_half}
use Rattle.buffers.proofs.little.half_at.Goals as goal

pub returns : goal.returns
returns c = rw (c.from_le_bytes.ensures, c.padded.ensures) (le_half c.args.b.now c.args.at)
