-- The steps are those of the definition. The check finds it alone: it is written, so that what an edit makes false is
-- named here.
use Rattle.std.proofs.Common.{refl}
use Rattle.reading.specs.Reading.{ratio}
use Rattle.reading.proofs.decoding.ratio.Goals as goal

pub returns : goal.returns
unfolding ratio
returns c = refl
