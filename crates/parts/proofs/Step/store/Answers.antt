-- By computation: what is in the place at exit, and what is handed out. The check finds both alone: they are written, so
-- that what an edit makes false is named here.
use Rattle.std.proofs.Common.{refl}
use Rattle.parts.proofs.Step.store.Goals as goal

pub returns-clause-record_is : goal.returns-clause-record_is
returns-clause-record_is g c = refl

pub returns-clause-answer : goal.returns-clause-answer
returns-clause-answer g c = refl
