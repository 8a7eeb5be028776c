-- The lines that a script says, as text.
use Rattle.std.specs.Prelude.{ℕ, List, [], ◌∷◌, ◌++◌, Some, None, codes, decimal, Option}
use Rattle.model.specs.Refusals.{number}
use Rattle.script.specs.declared.records.Cause.{Cause}
use Rattle.script.specs.declared.records.Cause.TheVariants.{Finish, Count}
use Rattle.text.specs.declared.line.Line.{Line}
use Rattle.text.specs.declared.line.Line.TheVariants.{Refused, Bound, End, Run}

-- A number behind a space.
abbrev pub field : ℕ → List ℕ → List ℕ
field n rest = codes " " ++ (decimal n ++ rest)

-- F for a finish, C for a count that was reached.
abbrev pub mark : Cause → List ℕ
mark Finish = codes "F"
mark Count = codes "C"

-- The task of a stretch, or a dash for none.
abbrev pub given_to : Option ℕ → List ℕ
given_to (Some task) = decimal task
given_to None = codes "-"

-- A line, without its end.
abbrev pub line : Line → List ℕ
line (Refused why) = codes "refused" ++ field (number why) []
line (Bound task bound offset) = codes "bound" ++ field task (field bound (field offset []))
line (End e) =
    codes "end" ++ field e.task (field e.release (field e.end (field e.given (codes " " ++ mark e.cause))))
line (Run s) = codes "run " ++ (given_to s.task ++ field s.first (field s.ticks []))

-- The text of lines: each ends with byte 0A.
abbrev pub printed : List Line → List ℕ
printed [] = []
printed (l ∷ ls) = line l ++ (0x0A ∷ printed ls)
