-- What a script does in a run: the run, its two logs, and the row of ticks that goes on.
use Rattle.std.specs.Prelude.{ℕ, ◌-◌, Bool, true, false, cond, List, [], length, Some, None, Ok, Err, Option, Result, ◌==◌, nat_le}
use Rattle.std.specs.Option.{option_map}
use Rattle.record_log.specs.Records.{pushed}
use Rattle.model.specs.Machine.{step}
use Rattle.model.specs.State.{State, job, start}
use Rattle.model.specs.declared.call.Answer.{Answer}
use Rattle.model.specs.declared.call.Answer.TheVariants.{Released, Waits, Woken, Finished, Passed}
use Rattle.model.specs.declared.call.Call.{Call as RunCall}
use Rattle.model.specs.declared.figures.Figures.{Figures}
use Rattle.model.specs.declared.job.JobId.{JobId}
use Rattle.model.specs.declared.refusal.Refusal.{Refusal}
use Rattle.model.specs.declared.refusal.Refusal.TheVariants.{OutOfPlace}
use Rattle.script.specs.declared.command.Command.{Command}
use Rattle.script.specs.declared.command.Command.TheVariants.{Task, Rule, Start, Call, Close}
use Rattle.script.specs.declared.records.Cause.{Cause}
use Rattle.script.specs.declared.records.Cause.TheVariants.{Finish, Count}
use Rattle.script.specs.declared.records.EndRecord.{EndRecord}
use Rattle.script.specs.declared.records.Lost.{Lost}
use Rattle.script.specs.declared.records.Row.{Row}
use Rattle.script.specs.declared.records.Stretch.{Stretch}
use Rattle.script.specs.declared.records.Turn.{Turn}
use Rattle.script.specs.declared.records.Turn.TheVariants.{Made, Closes}

-- What a session holds: the state of its run, the records of its two logs, and the row of ticks that goes on.
pub record Books : Type 0 where
  pub state : State
  pub ends : List EndRecord
  pub stretches : List Stretch
  pub row : Option Row

-- At the start of the run nothing is recorded.
abbrev pub opened : Books
opened = record { state = start; ends = []; stretches = []; row = None }

-- The end of the latest job of a task, from the state after it.
abbrev pub end_of : ℕ → Cause → State → EndRecord
end_of task cause s =
    record { task = task; release = (job s task).release; end = s.clock; given = (job s task).given; cause = cause }

-- The end that a call with this answer brought, from the state after it.
abbrev pub ended_by : Result Answer Refusal → State → Option EndRecord
ended_by (Ok (Released clock)) s = None
ended_by (Ok (Waits task)) s = None
ended_by (Ok (Woken waited)) s = None
ended_by (Ok (Finished e)) s = Some (end_of e.task Finish s)
ended_by (Ok (Passed t)) s = cond t.ended (option_map (λ task. end_of task Count s) t.ran) None
ended_by (Err why) s = None

-- Two ticks are given to one task, or both to none.
abbrev pub alike : Option ℕ → Option ℕ → Bool
alike None None = true
alike None (Some b) = false
alike (Some a) None = false
alike (Some a) (Some b) = a == b

-- The stretch that a row makes if it stops at a clock: it has as many ticks as the clock has gained since its first.
abbrev pub stretch : ℕ → Row → Stretch
stretch clock row = record { task = row.task; first = row.first; ticks = clock - row.first }

-- The row that a tick at a clock stops: one whose ticks were given to another.
abbrev pub stopped : ℕ → Option ℕ → Option Row → Option Stretch
stopped clock ran None = None
stopped clock ran (Some row) = cond (alike row.task ran) None (Some (stretch clock row))

-- The row that goes on after a tick at a clock: the row as it was, or one that begins.
abbrev pub going : ℕ → Option ℕ → Option Row → Row
going clock ran None = record { task = ran; first = clock }
going clock ran (Some row) = cond (alike row.task ran) row (record { task = ran; first = clock })

-- The row that a call with this answer stops, and the row that goes on, from the clock before it. Only ticks make or break a
-- row.
abbrev pub rows : ℕ → Result Answer Refusal → Option Row → Option Stretch × Option Row
rows clock (Ok (Released at)) row = (None, row)
rows clock (Ok (Waits task)) row = (None, row)
rows clock (Ok (Woken waited)) row = (None, row)
rows clock (Ok (Finished e)) row = (None, row)
rows clock (Ok (Passed t)) row = (stopped clock t.ran row, Some (going clock t.ran row))
rows clock (Err why) row = (None, row)

-- Pushing a record, if there is one, on a log with room for so many: whether it is lost, and the records then.
abbrev pub noted : {T : Type 0} → ℕ → List T → Option T → Bool × List T
noted room records None = (false, records)
noted room records (Some x) = (nat_le room (length records), (pushed room records x).1)

-- The run stops at a clock, and the row that goes on is pushed: whether it is lost, and the stretches then.
abbrev pub settled : ℕ → List Stretch → ℕ → Option Row → Bool × List Stretch
settled room stretches clock row = noted room stretches (option_map (stretch clock) row)

-- The answer of a call in a session: which records are lost, or its refusal.
abbrev pub outcome : Result Answer Refusal → Lost → Result Turn Refusal
outcome (Ok answer) lost = Ok (Made lost)
outcome (Err why) lost = Err why

-- Sessions whose logs have room for so many ends and so many stretches.
module _ (end_room row_room : ℕ) where
  -- The records that a call with this answer loses, from the state after it.
  abbrev pub lost : Books → Result Answer Refusal → State → Lost
  lost b answer after =
      record {
        end = (noted end_room b.ends (ended_by answer after)).0;
        row = (noted row_room b.stretches (rows b.state.clock answer b.row).0).0;
      }

  -- What the session holds after a call with this answer that left this state.
  abbrev pub booked : Books → Result Answer Refusal → State → Books
  booked b answer after =
      record {
        state = after;
        ends = (noted end_room b.ends (ended_by answer after)).1;
        stretches = (noted row_room b.stretches (rows b.state.clock answer b.row).0).1;
        row = (rows b.state.clock answer b.row).1;
      }

  module _ (tasks : List Figures) (before : JobId → JobId → Bool) where
    -- A call on the run, with its records: the end of a job first, then a row that stops.
    abbrev pub called : RunCall → Books → Result Turn Refusal × Books
    called c b = (
      outcome (step tasks before c b.state).0 (lost b (step tasks before c b.state).0 (step tasks before c b.state).1),
      booked b (step tasks before c b.state).0 (step tasks before c b.state).1,
    )

    -- What a command answers in a run, and what the session holds then. What belongs outside of a run is out of place.
    abbrev pub commanded : Command → Books → Result Turn Refusal × Books
    commanded (Task f) b = (Err OutOfPlace, b)
    commanded (Rule choice) b = (Err OutOfPlace, b)
    commanded Start b = (Err OutOfPlace, b)
    commanded (Call c) b = called c b
    commanded Close b = (Ok Closes, b)
