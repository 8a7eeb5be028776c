-- The open table: a list of tasks, numbered from 0 in the order of adding.
use Rattle.std.specs.Prelude.{ℕ, Bool, true, cond, List, [], ◌∷◌, ◌++◌, length, Result, ◌==◌, nat_le, nat_lt, slice_index_or}
use Rattle.model.specs.Checks.{Checks, call, of_task}
use Rattle.model.specs.Figures.{no_task, most_tasks}
use Rattle.model.specs.declared.figures.Figures.{Figures}
use Rattle.model.specs.declared.refusal.Refusal.{Refusal}
use Rattle.model.specs.declared.refusal.Refusal.TheVariants.{TableFull, NoExecution, DeadlineOutsidePeriod}

-- D is 0 or above T.
abbrev pub deadline_outside : Figures → Bool
deadline_outside f = cond (f.deadline == 0) true (nat_lt f.period f.deadline)

-- The checks of adding: the table is full, C is 0, D is 0 or above T.
abbrev pub adding : List Figures → Figures → Checks
adding tasks f =
    (nat_le most_tasks (length tasks), TableFull) ∷ (((f.execution == 0), NoExecution) ∷
    ((deadline_outside f, DeadlineOutsidePeriod) ∷ []))

-- Adding a task at the end: the answer is its number.
abbrev pub add : List Figures → Figures → Result ℕ Refusal × List Figures
add tasks f = call (adding tasks f) tasks (length tasks) (tasks ++ f ∷ [])

-- The figures of a task, by its number.
abbrev pub figures_of : List Figures → ℕ → Result Figures Refusal
figures_of tasks k = of_task (length tasks) k (slice_index_or tasks k no_task)
