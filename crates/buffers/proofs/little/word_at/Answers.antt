-- Std's number of the bytes with zeros behind them.
use Rattle.buffers.proofs.Words.{le_word}
use Rattle.buffers.proofs.little.word_at.Goals as goal

pub returns : goal.returns
returns c = rw (c.from_le_bytes.ensures, c.padded.ensures) (le_word c.args.b.now c.args.at)
