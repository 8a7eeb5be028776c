-- The machine: what every call on a run answers, and the state that it leaves.
use Rattle.std.specs.Prelude.{ℕ, ◌+◌, ◌-◌, Bool, false, cond, not, ◌&&◌, List, [], ◌∷◌, length, is_some, Some, None, Ok, Err, Option, Result, ◌==◌, nat_le, nat_lt, slice_index, slice_index_or}
use Rattle.std.specs.Option.{unwrap_or, option_map}
use Rattle.model.specs.Checks.{Checks, call, of_task}
use Rattle.model.specs.Figures.{no_task}
use Rattle.model.specs.Processor.{processor}
use Rattle.model.specs.State.{State, job, is_ready, is_waiting, is_open, put, in_phase}
use Rattle.model.specs.Words.{word}
use Rattle.model.specs.declared.call.Answer.{Answer}
use Rattle.model.specs.declared.call.Answer.TheVariants.{Released, Waits, Woken, Finished, Passed}
use Rattle.model.specs.declared.call.Call.{Call}
use Rattle.model.specs.declared.call.Call.TheVariants.{Release, Wait, Wake, Finish, Tick}
use Rattle.model.specs.declared.call.Ended.{Ended}
use Rattle.model.specs.declared.call.Ticked.{Ticked}
use Rattle.model.specs.declared.figures.Figures.{Figures}
use Rattle.model.specs.declared.job.Job.{Job}
use Rattle.model.specs.declared.job.JobId.{JobId}
use Rattle.model.specs.declared.job.Phase.TheVariants.{Closed, Ready, Waiting}
use Rattle.model.specs.declared.refusal.Refusal.{Refusal}
use Rattle.model.specs.declared.refusal.Refusal.TheVariants.{NoSuchTask, ReleasedTooSoon, NoReadyJob}
use Rattle.model.specs.declared.refusal.Refusal.TheVariants.{SuspensionSpent, NotWaiting, ClockAtEnd}

-- The clock at which a tick is refused.
abbrev pub last_clock : ℕ
last_clock = 4_000_000_000

-- No task of the set has the number.
abbrev pub no_such_task : List Figures → ℕ → Bool
no_such_task tasks task = nat_le (length tasks) task

-- Fewer than a period of ticks have passed since the latest release, if there was one.
abbrev pub too_soon : ℕ → ℕ → Option Job → Bool
too_soon period clock None = false
too_soon period clock (Some j) = nat_lt (clock - j.release) period

-- The checks of a release: no task has the number; it comes too soon after the task's latest release.
abbrev pub releasing : List Figures → ℕ → State → Checks
releasing tasks task s =
    (no_such_task tasks task, NoSuchTask)
    ∷ (too_soon (slice_index_or tasks task no_task).period s.clock (s.latest task), ReleasedTooSoon)
    ∷ []

-- A release opens a ready job with both counts 0, and answers the clock.
abbrev pub release : List Figures → ℕ → State → Result ℕ Refusal × State
release tasks task s =
    call (releasing tasks task s) s s.clock (put task (record { release = s.clock; phase = Ready; given = 0; waited = 0 }) s)

-- The checks of a wake: no task has the number; the task has no waiting job.
abbrev pub waking : List Figures → ℕ → State → Checks
waking tasks task s = (no_such_task tasks task, NoSuchTask) ∷ (not (is_waiting (job s task).phase), NotWaiting) ∷ []

-- A wake makes the waiting job of a task ready, and answers how long it has waited.
abbrev pub wake : List Figures → ℕ → State → Result ℕ Refusal × State
wake tasks task s = call (waking tasks task s) s (job s task).waited (put task (in_phase Ready (job s task)) s)

-- The job of task i has the processor.
abbrev pub runs : Option ℕ → ℕ → Bool
runs None i = false
runs (Some task) i = i == task

-- The counts of a job after a tick: the job that ran was given one tick more, a waiting job has waited one more.
abbrev pub counted : Bool → Job → Job
counted ran j =
    record {
      release = j.release;
      phase = j.phase;
      given = cond ran (j.given + 1) j.given;
      waited = cond (is_waiting j.phase) (j.waited + 1) j.waited;
    }

-- The job ran and was given C.
abbrev pub spent : Figures → Bool → Job → Bool
spent f ran j = ran && j.given == f.execution

-- Then the job that ran ends if it was given C.
abbrev pub ended : Figures → Bool → Job → Job
ended f ran j = cond (spent f ran j) (in_phase Closed j) j

-- The job waits and has waited S.
abbrev pub overdue : Figures → Job → Bool
overdue f j = is_waiting j.phase && j.waited == f.suspension

-- Last, a waiting job that has waited S becomes ready by force.
abbrev pub forced : Figures → Job → Job
forced f j = cond (overdue f j) (in_phase Ready j) j

-- What a tick makes of the latest job of a task.
abbrev pub ticked : Figures → Bool → Job → Job
ticked f ran j = forced f (ended f ran (counted ran j))

-- What wait, finish and tick do when the job of the task `chosen` has the processor, or none has it.
module _ (tasks : List Figures) (chosen : Option ℕ) (s : State) where
  -- The task of the job with the processor. Where none has it, no granted call asks.
  abbrev pub running : ℕ
  running = unwrap_or chosen 0

  -- The checks of a wait: no job is ready; the job has waited S.
  abbrev pub suspending : Checks
  suspending =
      (not (is_some chosen), NoReadyJob)
      ∷ (((job s running).waited == (slice_index_or tasks running no_task).suspension), SuspensionSpent)
      ∷ []

  -- The job becomes waiting; the answer is its task.
  abbrev pub suspend : Result ℕ Refusal × State
  suspend = call suspending s running (put running (in_phase Waiting (job s running)) s)

  -- The check of a finish: no job is ready.
  abbrev pub completing : Checks
  completing = (not (is_some chosen), NoReadyJob) ∷ []

  -- What a finish answers: the task, the age of its job and the ticks that the job was given.
  abbrev pub completed : Ended
  completed = record { task = running; age = s.clock - (job s running).release; given = (job s running).given }

  -- The job ends.
  abbrev pub complete : Result Ended Refusal × State
  complete = call completing s completed (put running (in_phase Closed (job s running)) s)

  -- The check of a tick: the clock is at its end.
  abbrev pub advancing : Checks
  advancing = ((s.clock == last_clock), ClockAtEnd) ∷ []

  -- What a tick answers: the task that ran, whether its job ended, and the word of the tasks whose jobs were forced.
  abbrev pub advanced : Ticked
  advanced =
      record {
        ran = chosen;
        ended = spent (slice_index_or tasks running no_task) (is_some chosen) (counted (is_some chosen) (job s running));
        forced = word (length tasks) (λ i. overdue (slice_index_or tasks i no_task) (counted (runs chosen i) (job s i)));
      }

  -- The state after a tick: the clock gains 1, and every job is as the tick makes it.
  abbrev pub next : State
  next =
      record {
        clock = s.clock + 1;
        latest = λ i. option_map (ticked (slice_index_or tasks i no_task) (runs chosen i)) (s.latest i);
      }

  -- Time moves on by one tick.
  abbrev pub advance : Result Ticked Refusal × State
  advance = call advancing s advanced next

-- A granted answer in the type that all calls share; a refusal stays.
abbrev pub shared : {A : Type 0} → (A → Answer) → Result A Refusal → Result Answer Refusal
shared wrap (Ok a) = Ok (wrap a)
shared wrap (Err e) = Err e

-- The same, with the state after the call.
abbrev pub told : {A : Type 0} → (A → Answer) → Result A Refusal × State → Result Answer Refusal × State
told wrap step = (shared wrap step.0, step.1)

-- The calls that ask who has the processor, and all calls together.
module _ (tasks : List Figures) (before : JobId → JobId → Bool) where
  -- A wait: the job with the processor becomes waiting.
  abbrev pub wait : State → Result ℕ Refusal × State
  wait s = suspend tasks (processor tasks before s) s

  -- A finish: the job with the processor ends.
  abbrev pub finish : State → Result Ended Refusal × State
  finish s = complete tasks (processor tasks before s) s

  -- A tick: the job with the processor, if there is one, is given it.
  abbrev pub tick : State → Result Ticked Refusal × State
  tick s = advance tasks (processor tasks before s) s

  -- The answer of a call and the state after it.
  abbrev pub step : Call → State → Result Answer Refusal × State
  step (Release task) s = told Released (release tasks task s)
  step Wait s = told Waits (wait s)
  step (Wake task) s = told Woken (wake tasks task s)
  step Finish s = told Finished (finish s)
  step Tick s = told Passed (tick s)

  -- The answers to a list of calls, made one after the other.
  abbrev pub answers : State → List Call → List (Result Answer Refusal)
  answers s [] = []
  answers s (c ∷ cs) = (step c s).0 ∷ answers (step c s).1 cs

  -- The state after a list of calls.
  abbrev pub after : State → List Call → State
  after s [] = s
  after s (c ∷ cs) = after (step c s).1 cs

-- The questions of a run, which alter nothing.
module _ (tasks : List Figures) (s : State) where
  -- The tasks whose job is ready.
  abbrev pub ready_word : ℕ
  ready_word = word (length tasks) (λ i. is_ready (job s i).phase)

  -- The tasks whose job is open.
  abbrev pub open_word : ℕ
  open_word = word (length tasks) (λ i. is_open (job s i).phase)

  -- The latest job of a task, none if it was never released.
  abbrev pub latest_job : ℕ → Result (Option Job) Refusal
  latest_job task = of_task (length tasks) task (s.latest task)

  -- What closing a run answers: the clock, and the tasks with an open job.
  abbrev pub totals : ℕ × ℕ
  totals = (s.clock, open_word)

-- The bound of a task of the set.
abbrev pub bound_of : List ℕ → ℕ → Result ℕ Refusal
bound_of bounds task = of_task (length bounds) task (slice_index bounds task)
