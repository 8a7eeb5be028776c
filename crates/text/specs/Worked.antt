-- A worked script: two tasks, of which one waits and is woken by force.
use Rattle.std.specs.Prelude.{◌≡◌, ℕ, List, [], ◌∷◌, Some, None}
use Rattle.admission.specs.Verdicts.{Right, Verdict}
use Rattle.script.specs.Commands.{items}
use Rattle.script.specs.Setups.{empty}
use Rattle.script.specs.declared.records.Cause.TheVariants.{Count}
use Rattle.text.specs.Spoken.{outside}
use Rattle.text.specs.declared.line.Line.{Line}
use Rattle.text.specs.declared.line.Line.TheVariants.{Bound, End, Run}

-- TASK 1, 2, 5, 5 and TASK 1, 3, 7, 7; RULE deadline; START; RELEASE 0; WAIT; RELEASE 1; three TICKs; CLOSE.
abbrev pub worked_script : List ℕ
worked_script =
    0x01 ∷ 1 ∷ 0 ∷ 2 ∷ 0 ∷ 5 ∷ 0 ∷ 5 ∷ 0
    ∷ 0x01 ∷ 1 ∷ 0 ∷ 3 ∷ 0 ∷ 7 ∷ 0 ∷ 7 ∷ 0
    ∷ 0x02 ∷ 0 ∷ 0 ∷ 0
    ∷ 0x03
    ∷ 0x10 ∷ 0 ∷ 0x11 ∷ 0x10 ∷ 1 ∷ 0x14 ∷ 0x14 ∷ 0x14
    ∷ 0x1F ∷ []

-- What it says: the bounds and offsets, the two ends, the three rows.
abbrev pub worked_lines : List Line
worked_lines =
    Bound 0 4 0
    ∷ Bound 1 6 0
    ∷ End (record { task = 1; release = 0; end = 1; given = 1; cause = Count })
    ∷ End (record { task = 0; release = 0; end = 3; given = 1; cause = Count })
    ∷ Run (record { task = Some 1; first = 0; ticks = 1 })
    ∷ Run (record { task = None; first = 1; ticks = 1 })
    ∷ Run (record { task = Some 0; first = 2; ticks = 1 })
    ∷ []

-- The lines of the worked script, by every right verdict.
abbrev pub Worked : Type 0
Worked = (verdict : Verdict) → Right verdict → outside verdict empty (items worked_script) ≡ worked_lines
