-- What is said of the step, of what is put in its place and handed out. The check finds it alone: it is written, so that
-- what an edit makes false is named here.
use Rattle.answers.specs.Refusal.{answer_number}
use Rattle.parts.specs.Parts.{PartChecked}
use Rattle.parts.proofs.Calls.{in_place}
use Rattle.parts.proofs.checker.Checker.check_part.Goals as goal

pub returns : goal.returns
returns c =
    in_place (λ a s. PartChecked c.args.self.now.0 c.args.part.now (answer_number a) s.0)
    c.store.ensures.record_is c.store.ensures.answer c.ciphertext.ensures
