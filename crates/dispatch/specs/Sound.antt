-- What holds of every board, over the state that it stands for.
use Rattle.std.specs.Prelude.{◌≡◌, ℕ, ◌<◌, Bool, true, ◌&&◌, List, length, Some, None, Option, nat_le, nat_lt, slice_index_or}
use Rattle.model.specs.Figures.{no_task}
use Rattle.model.specs.State.{State, job, is_ready}
use Rattle.model.specs.declared.figures.Figures.{Figures}
use Rattle.model.specs.declared.job.Job.{Job}
use Rattle.model.specs.declared.job.Phase.{Phase}
use Rattle.model.specs.declared.job.Phase.TheVariants.{Closed, Ready, Waiting}
use Rattle.words.specs.Bits.{has}

-- The state of a clock and of a record for each task.
abbrev pub state_at : ℕ → List (Option Job) → State
state_at clock jobs = record { clock = clock; latest = λ i. slice_index_or jobs i None }

-- A ready job has been given fewer ticks than C and has waited at most S, a waiting one has waited fewer than S.
abbrev pub counts_in : Phase → Figures → Job → Bool
counts_in Closed f j = true
counts_in Ready f j = nat_lt j.given f.execution && nat_le j.waited f.suspension
counts_in Waiting f j = nat_lt j.given f.execution && nat_lt j.waited f.suspension

-- A job was released by now, and its counts are below its task's figures.
abbrev pub in_bounds : Figures → ℕ → Option Job → Bool
in_bounds f clock None = true
in_bounds f clock (Some j) = nat_le j.release clock && counts_in j.phase f j

-- Every job of a state is in bounds.
abbrev pub AllInBounds : List Figures → State → Type 0
AllInBounds tasks s = (i : ℕ) → in_bounds (slice_index_or tasks i no_task) s.clock (s.latest i) ≡ true

-- A word has the tasks whose job is in a phase that passes the test.
abbrev pub WordOf : (Phase → Bool) → State → ℕ → Type 0
WordOf test s w = (i : ℕ) → has w i ≡ test (job s i).phase

-- The task that was chosen has a ready job.
abbrev pub Chosen : List Figures → State → Option ℕ → Type 0
Chosen tasks s None = Unit {0}
Chosen tasks s (Some k) = (k < length tasks) × (is_ready (job s k).phase ≡ true)
