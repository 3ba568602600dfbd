-- The lines of a journal one by one: what the reader says at each place, from the place that the line before gave, up
-- to the journal's end.
use Rattle.std.specs.Prelude.{ℕ, zero, suc, ◌-◌, cond, List, [], ◌∷◌, length, ltb}
use Rattle.answers.specs.Sizes.{most_frame}
use Rattle.run.specs.Read.{Reading}
use Rattle.journal.specs.declared.lines.Line.{Line}
use Rattle.journal.specs.declared.lines.Lines.{Lines}
use Rattle.journal.specs.Numbers.{answer_numbers}
use Rattle.journal.specs.Promise.{reading_of}
use Rattle.journal.specs.Reader.{read_at}

-- into a buffer of the longest frame's size
abbrev pub reading_at : (key j : List ℕ) → (place : ℕ) → Reading
reading_at key j place = read_at key j place most_frame

-- at most k of them
unfoldable pub readings_from : (key j : List ℕ) → (k place : ℕ) → List Reading
readings_from key j zero place = []
readings_from key j (suc k) place =
    cond (ltb place (length j)) (reading_at key j place ∷ readings_from key j k (reading_at key j place).next) []

-- each call goes forward, so that this is all of them
abbrev pub readings : (key j : List ℕ) → (place : ℕ) → List Reading
readings key j place = readings_from key j (length j - place) place

-- those of a reader of lines, and that of one line
abbrev pub lines_left : Lines → List Reading
lines_left s = readings s.key s.journal.now s.next

abbrev pub reading_in : Line → Reading
reading_in l = reading_of (answer_numbers l.answer) l.frame
