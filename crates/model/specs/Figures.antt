-- The figures of tasks, and what they must satisfy.
use Rattle.std.specs.Prelude.{ℕ, ◌<◌, ◌≤◌, List, length, slice_index_or}
use Rattle.model.specs.declared.figures.Figures.{Figures}

-- What stands for the figures of a number that no task has.
abbrev pub no_task : Figures
no_task = record { execution = 0; suspension = 0; deadline = 0; period = 0 }

-- The most tasks of a table: as many as a word of 32 bits can name.
abbrev pub most_tasks : ℕ
most_tasks = 32

-- The figures fit a task: C is at least 1, and D from 1 to T.
abbrev pub Fit : Figures → Type 0
Fit f = (1 ≤ f.execution) × (1 ≤ f.deadline) × (f.deadline ≤ f.period)

-- The figures of every task of a list fit.
abbrev pub AllFit : List Figures → Type 0
AllFit tasks = (k : ℕ) → k < length tasks → Fit (slice_index_or tasks k no_task)

-- A list of tasks: not too many, and the figures of each fit.
abbrev pub Tasks : List Figures → Type 0
Tasks tasks = (length tasks ≤ most_tasks) × AllFit tasks
