-- What an accepted set keeps, as lists with one entry for each task, and what its questions answer.
use Rattle.std.specs.Prelude.{ℕ, List, length, ℤ, pos, Result, slice_index_or}
use Rattle.model.specs.Checks.{of_task}
use Rattle.model.specs.Figures.{no_task}
use Rattle.model.specs.Test.{Warrant}
use Rattle.model.specs.declared.figures.Figures.{Figures}
use Rattle.model.specs.declared.refusal.Refusal.{Refusal}
use Rattle.admission.specs.Held.{figures_in, points_in, bounds_in, offsets_in}
use Rattle.admission.specs.declared.accepted.Accepted.{Accepted}
use Rattle.admission.specs.declared.accepted.Admitted.{Admitted}

-- What the set keeps of each task, in their order.
abbrev pub rows_of : Accepted → List Admitted
rows_of s = s.rows.items

-- The tasks of a set, in their order.
abbrev pub tasks_of : Accepted → List Figures
tasks_of s = figures_in (rows_of s)

-- The points that it was tested under.
abbrev pub points_of : Accepted → List ℤ
points_of s = points_in (rows_of s)

-- Its bounds.
abbrev pub bounds_of : Accepted → List ℕ
bounds_of s = bounds_in (rows_of s)

-- The offsets at which the bounds were found.
abbrev pub offsets_of : Accepted → List ℕ
offsets_of s = offsets_in (rows_of s)

-- The bounds of a set are a warrant for its own tasks and points.
abbrev pub Warranted : Accepted → Type 0
Warranted s = Warrant (tasks_of s) (points_of s) (bounds_of s)

-- What stands for the row of a number that no task has.
abbrev pub no_row : Admitted
no_row = record { figures = no_task; point = pos 0; bound = 0; offset = 0 }

-- What the set keeps of a task, by its number.
abbrev pub row_of : Accepted → ℕ → Result Admitted Refusal
row_of s k = of_task (length (rows_of s)) k (slice_index_or (rows_of s) k no_row)
