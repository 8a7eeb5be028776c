-- Worked runs under the deadline rule, which the checker computes.
use Rattle.std.specs.Prelude.{◌≡◌, ℕ, ◌-◌, ◌<◌, Bool, List, [], ◌∷◌, ◌++◌, map, length, ℤ, pos, Ok, Option, Result, slice_index_or}
use Rattle.std.specs.List.{zip}
use Rattle.model.specs.Figures.{Tasks}
use Rattle.model.specs.Machine.{answers}
use Rattle.model.specs.Orders.{Lawful}
use Rattle.model.specs.Reading.{Reading, Observed, Fate, still_open, by_tick, by_finish, reading}
use Rattle.model.specs.Rules.{by_points, deadline_point, lower_number}
use Rattle.model.specs.State.{start}
use Rattle.model.specs.Test.{Warrant}
use Rattle.model.specs.declared.call.Answer.{Answer}
use Rattle.model.specs.declared.call.Answer.TheVariants.{Passed}
use Rattle.model.specs.declared.call.Call.{Call}
use Rattle.model.specs.declared.call.Call.TheVariants.{Release, Wait, Wake, Finish, Tick}
use Rattle.model.specs.declared.figures.Figures.{Figures}
use Rattle.model.specs.declared.job.JobId.{JobId}
use Rattle.model.specs.declared.refusal.Refusal.{Refusal}

-- Tasks with bounds, and the calls that are made on a run of them.
pub record Run : Type 0 where
  pub tasks : List Figures
  pub bounds : List ℕ
  pub calls : List Call

-- A task by C, S, D and T.
abbrev pub figures : ℕ → ℕ → ℕ → ℕ → Figures
figures c s d t = record { execution = c; suspension = s; deadline = d; period = t }

-- The points of the deadline rule, as a list.
abbrev pub deadlines : List Figures → List ℤ
deadlines tasks = map (λ f. pos f.deadline) tasks

-- The order of the deadline rule.
abbrev pub by_deadline : List Figures → JobId → JobId → Bool
by_deadline tasks = by_points (deadline_point tasks) lower_number

-- What the calls of a run answer.
abbrev pub replies : Run → List (Result Answer Refusal)
replies run = answers run.tasks (by_deadline run.tasks) start run.calls

-- What its transcript shows.
abbrev pub shown : Run → Reading
shown run = reading (zip run.calls (replies run))

-- What the transcript of two tasks shows, at once: whether it is whole, its ticks, and the jobs of each task.
abbrev pub seen : Run → Bool × List (Option ℕ) × List Observed × List Observed
seen run = ((shown run).whole, (shown run).ticks, (shown run).jobs 0, (shown run).jobs 1)

-- The run law speaks of the run.
pub record Covered (run : Run) : Type 0 where
  pub allowed : Tasks run.tasks
  pub warrant : Warrant run.tasks (deadlines run.tasks) run.bounds
  pub lawful : Lawful (deadline_point run.tasks) (by_deadline run.tasks)
  pub points : (k : ℕ) → k < length run.tasks → deadline_point run.tasks k ≡ slice_index_or (deadlines run.tasks) k (pos 0)

-- A job that a tick ended, by the ticks before its release, the ticks given to it and the ticks up to its end.
abbrev pub counted_out : ℕ → ℕ → ℕ → Observed
counted_out release given end = record { release = release; given = given; fate = by_tick end }

-- A job of a task that a finish ended, with the same numbers and the age that the finish answered; it answered the ticks given.
abbrev pub finished_early : ℕ → ℕ → ℕ → ℕ → ℕ → Observed
finished_early task release given end age =
    record { release = release; given = given; fate = by_finish end (record { task = task; age = age; given = given }) }

-- The distance of a job's end from its release; 0 while it is open.
abbrev pub distance : ℕ → Fate → ℕ
distance release still_open = 0
distance release (by_tick end) = end - release
distance release (by_finish end answered) = end - release

-- The distance at which the latest job of a task ended.
abbrev pub response : List Observed → ℕ
response [] = 0
response (j ∷ js) = distance j.release j.fate

-- What a granted tick answers: the task that ran, whether its job ended, and the word of the tasks that were forced.
abbrev pub ticked : Option ℕ → Bool → ℕ → Result Answer Refusal
ticked ran ended forced = Ok (Passed (record { ran = ran; ended = ended; forced = forced }))

-- Two light tasks.
abbrev pub light : List Figures
light = figures 1 2 5 5 ∷ figures 1 3 7 7 ∷ []

-- The job of task 0 waits until it is forced, and the job of task 1 runs in the meantime.
abbrev pub forced_wake : Run
forced_wake =
    record { tasks = light; bounds = 4 ∷ 6 ∷ []; calls = Release 0 ∷ Wait ∷ Release 1 ∷ Tick ∷ Tick ∷ Tick ∷ [] }

-- The job of task 1 has waited when that of task 0 is released, and still goes first; then the job of task 0 waits, and all
-- but ends.
abbrev pub late_calls : List Call
late_calls = Release 1 ∷ Wait ∷ Tick ∷ Tick ∷ Tick ∷ Release 0 ∷ Tick ∷ Wait ∷ Tick ∷ Tick ∷ []

-- After one tick more it ends.
abbrev pub longest_response : Run
longest_response = record { tasks = light; bounds = 4 ∷ 6 ∷ []; calls = late_calls ++ Tick ∷ [] }

-- The job of task 1 is preempted by that of task 0, which waits, is forced and ends by its count; then the job of task 1
-- finishes early. Every refusal of a run but that at the end of the clock is in it.
abbrev pub all_kinds : Run
all_kinds =
    record {
      tasks = figures 2 1 6 6 ∷ figures 3 2 12 12 ∷ [];
      bounds = 6 ∷ 12 ∷ [];
      calls =
          Release 1 ∷ Tick ∷ Release 0 ∷ Tick ∷ Wait ∷ Wake 5 ∷ Tick ∷ Wait ∷ Tick ∷ Release 0 ∷ Finish ∷ Finish ∷ Wake 1 ∷ Tick ∷ [];
    }
