-- The checks that a call makes before the test.
use Rattle.std.specs.Prelude.{ℕ, ◌*◌, ◌%◌, Bool, not, ◌||◌, List, [], ◌∷◌, length, ◌==◌, nat_lt, slice_index}
use Rattle.model.specs.Checks.{Checks}
use Rattle.model.specs.Figures.{most_tasks}
use Rattle.model.specs.Tables.{deadline_outside}
use Rattle.model.specs.declared.figures.Figures.{Figures}
use Rattle.model.specs.declared.refusal.Refusal.TheVariants.{TableFull, NoExecution, DeadlineOutsidePeriod, RuleOutOfRange, WrongLength}
use Rattle.rules.specs.Choices.{out_of_range}
use Rattle.host.specs.Rows.{row_count, rows}

-- The table's bytes are no multiple of 8, or the result has fewer than 4 bytes for each task.
abbrev pub wrong_length : List ℕ → ℕ → Bool
wrong_length table room = not (length table % 8 == 0) || nat_lt room (4 * row_count table)

-- The checks of the tasks, one task after the other: C is 0, D is 0 or above T.
abbrev pub row_checks : List Figures → Checks
row_checks [] = []
row_checks (f ∷ fs) = ((f.execution == 0), NoExecution) ∷ ((deadline_outside f, DeadlineOutsidePeriod) ∷ row_checks fs)

-- The checks of a table: too many tasks, and then each task.
abbrev pub table_checks : List Figures → Checks
table_checks tasks = (nat_lt most_tasks (length tasks), TableFull) ∷ row_checks tasks

-- All checks, in their order: the lengths, the rule, the table.
abbrev pub checks : List ℕ → List ℕ → ℕ → Checks
checks table rule room =
    (wrong_length table room, WrongLength) ∷
    ((out_of_range (slice_index rule 0) (slice_index rule 1) (slice_index rule 2), RuleOutOfRange) ∷ table_checks (rows table))
