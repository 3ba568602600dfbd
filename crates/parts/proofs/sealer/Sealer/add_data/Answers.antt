-- What is said of the step, of what is put in its place and handed out. The check finds it alone: it is written, so that
-- what an edit makes false is named here.
use Rattle.answers.specs.Refusal.{answer_number}
use Rattle.parts.specs.Parts.{DataTaken}
use Rattle.parts.proofs.Calls.{in_place}
use Rattle.parts.proofs.sealer.Sealer.add_data.Goals as goal

pub returns : goal.returns
returns c =
    in_place (λ a s. DataTaken c.args.self.now.0 c.args.part.now (answer_number a) s.0)
    c.store.ensures.record_is c.store.ensures.answer c.data.ensures
