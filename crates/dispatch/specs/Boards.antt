-- What a board means.
use Rattle.std.specs.Prelude.{ℕ, List, slice_index_or}
use Rattle.admission.specs.Views.{tasks_of}
use Rattle.admission.specs.declared.accepted.Accepted.{Accepted}
use Rattle.model.specs.Figures.{no_task}
use Rattle.model.specs.State.{State, job}
use Rattle.model.specs.declared.figures.Figures.{Figures}
use Rattle.model.specs.declared.job.Job.{Job}
use Rattle.dispatch.specs.Sound.{state_at}
use Rattle.dispatch.specs.declared.board.Board.{Board}

-- The state that a board stands for.
abbrev pub state_of : Board → State
state_of b = state_at b.clock b.jobs

-- The set whose tasks it dispatches.
abbrev pub set_of : Board → Accepted
set_of b = b.set.now

-- The tasks of this set.
abbrev pub tasks_on : Board → List Figures
tasks_on b = tasks_of (set_of b)

-- The figures of a task, and its latest job.
abbrev pub figures_on : Board → ℕ → Figures
figures_on b task = slice_index_or (tasks_on b) task no_task

abbrev pub job_on : Board → ℕ → Job
job_on b task = job (state_of b) task
