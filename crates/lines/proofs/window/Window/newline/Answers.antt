-- The search begins at what waits, in the part up to its end.
use Rattle.std.proofs.Common.{arith, ap, List, ℕ, ◌-◌, ◌≡◌, ◌∙◌}
use Rattle.buffers.specs.Find.{first_from}
use Rattle.run.specs.Line.{newline}
use Rattle.lines.proofs.window.Window.newline.Goals as goal

pub returns : goal.returns
returns c =
    let e : c.args.self.to - 0 ≡ c.args.self.to = omega arith in
    rw e at (c.find.ensures ∙ ap (λ (s : List ℕ). first_from newline s c.args.self.from) c.part.ensures)
