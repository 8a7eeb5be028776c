-- The state of a run: a clock and the latest job of every task.
use Rattle.std.specs.Prelude.{ℕ, Bool, true, false, cond, Some, None, Option, ◌==◌}
use Rattle.std.specs.Option.{unwrap_or}
use Rattle.model.specs.declared.job.Job.{Job}
use Rattle.model.specs.declared.job.JobId.{JobId}
use Rattle.model.specs.declared.job.Phase.{Phase}
use Rattle.model.specs.declared.job.Phase.TheVariants.{Closed, Ready, Waiting}

-- A state: the clock, and for every task number its latest job, none if the task was never released.
pub record State : Type 0 where
  pub clock : ℕ
  pub latest : ℕ → Option Job

-- The start: the clock is 0 and nothing was released.
abbrev pub start : State
start = record { clock = 0; latest = λ _. None }

-- What stands for the latest job of a task that was never released.
abbrev pub no_job : Job
no_job = record { release = 0; phase = Closed; given = 0; waited = 0 }

-- The latest job of a task.
abbrev pub job : State → ℕ → Job
job s task = unwrap_or (s.latest task) no_job

-- The same, as the order knows it.
abbrev pub identity : State → ℕ → JobId
identity s task = record { task = task; release = (job s task).release }

-- A ready job asks for the processor.
abbrev pub is_ready : Phase → Bool
is_ready Closed = false
is_ready Ready = true
is_ready Waiting = false

-- A waiting job has suspended itself.
abbrev pub is_waiting : Phase → Bool
is_waiting Closed = false
is_waiting Ready = false
is_waiting Waiting = true

-- A job is open while it is ready or waiting.
abbrev pub is_open : Phase → Bool
is_open Closed = false
is_open Ready = true
is_open Waiting = true

-- The state in which this is the latest job of the task.
abbrev pub put : ℕ → Job → State → State
put task j s = record { clock = s.clock; latest = λ i. cond (i == task) (Some j) (s.latest i) }

-- The job in another phase.
abbrev pub in_phase : Phase → Job → Job
in_phase p j = record { release = j.release; phase = p; given = j.given; waited = j.waited }
