-- The law of records: what the two logs of a session show is what the transcript of its run shows.
use Rattle.std.specs.Prelude.{◌≡◌, ℕ, ◌+◌, ◌<◌, ◌≤◌, Bool, false, cond, List, [], ◌∷◌, ◌++◌, reverse, length, replicate, ℤ, pos, Ok, Err, Option, Result, ◌==◌, slice_index_or}
use Rattle.std.specs.List.{zip}
use Rattle.model.specs.Figures.{Tasks}
use Rattle.model.specs.Machine.{answers}
use Rattle.model.specs.Orders.{Lawful}
use Rattle.model.specs.Reading.{Reading, Observed, Fate, still_open, by_tick, by_finish, reading}
use Rattle.model.specs.State.{start}
use Rattle.model.specs.Test.{Warrant}
use Rattle.model.specs.declared.call.Call.{Call as RunCall}
use Rattle.model.specs.declared.figures.Figures.{Figures}
use Rattle.model.specs.declared.job.JobId.{JobId}
use Rattle.model.specs.declared.refusal.Refusal.{Refusal}
use Rattle.script.specs.Sessions.{Books, alike, called, opened, settled}
use Rattle.script.specs.declared.records.Cause.TheVariants.{Finish, Count}
use Rattle.script.specs.declared.records.EndRecord.{EndRecord}
use Rattle.script.specs.declared.records.Stretch.{Stretch}
use Rattle.script.specs.declared.records.Turn.{Turn}
use Rattle.script.specs.declared.records.Turn.TheVariants.{Made, Closes}

-- The record of a job of a task that has ended, and none of one that is open.
abbrev pub end_shown : ℕ → ℕ → ℕ → Fate → List EndRecord
end_shown task release given still_open = []
end_shown task release given (by_tick end) =
    record { task = task; release = release; end = end; given = given; cause = Count } ∷ []
end_shown task release given (by_finish end answered) =
    record { task = task; release = release; end = end; given = given; cause = Finish } ∷ []

-- The ended jobs of a task, as records in the order of their releases, from its jobs with the newest first.
abbrev pub ends_shown : ℕ → List Observed → List EndRecord
ends_shown task [] = []
ends_shown task (j ∷ js) = ends_shown task js ++ end_shown task j.release j.given j.fate

-- The records of one task.
abbrev pub records_of : ℕ → List EndRecord → List EndRecord
records_of task [] = []
records_of task (e ∷ es) = cond (e.task == task) (e ∷ records_of task es) (records_of task es)

-- Every record is of an end that is no earlier than this clock, and the records after it no earlier than its own.
abbrev pub Ascend : ℕ → List EndRecord → Type 0
Ascend clock [] = Unit {0}
Ascend clock (e ∷ es) = (clock ≤ e.end) × Ascend e.end es

-- The end records are the ended jobs of the reading: for each task exactly its ended jobs, and all in the order of their ends.
pub record EndsAre (r : Reading) (ends : List EndRecord) : Type 0 where
  pub exactly : (task : ℕ) → records_of task ends ≡ ends_shown task (r.jobs task)
  pub in_order : Ascend 0 ends

-- The ticks of stretches, written out one by one.
abbrev pub written_out : List Stretch → List (Option ℕ)
written_out [] = []
written_out (s ∷ ss) = replicate s.ticks s.task ++ written_out ss

-- Every stretch has a tick and begins where the one before it ends, the first one at this clock.
abbrev pub Adjoin : ℕ → List Stretch → Type 0
Adjoin clock [] = Unit {0}
Adjoin clock (s ∷ ss) = (s.first ≡ clock) × (1 ≤ s.ticks) × Adjoin (clock + s.ticks) ss

-- Neighbours are given to different tasks.
abbrev pub Differ : List Stretch → Type 0
Differ [] = Unit {0}
Differ (s ∷ []) = Unit {0}
Differ (s ∷ (t ∷ ts)) = (alike s.task t.task ≡ false) × Differ (t ∷ ts)

-- The stretches are the ticks of the reading, which has the newest first: written out they are its list of ticks, each stands at
-- its place, and none could be longer.
pub record StretchesAre (r : Reading) (stretches : List Stretch) : Type 0 where
  pub exactly : written_out stretches ≡ reverse r.ticks
  pub in_place : Adjoin 0 stretches
  pub longest : Differ stretches

-- A call lost no end.
abbrev pub end_kept : Result Turn Refusal → Type 0
end_kept (Ok (Made lost)) = lost.end ≡ false
end_kept (Ok Closes) = Unit {0}
end_kept (Err why) = Unit {0}

-- A call lost no row.
abbrev pub row_kept : Result Turn Refusal → Type 0
row_kept (Ok (Made lost)) = lost.row ≡ false
row_kept (Ok Closes) = Unit {0}
row_kept (Err why) = Unit {0}

module _ (end_room row_room : ℕ) (tasks : List Figures) (before : JobId → JobId → Bool) where
  -- What a session holds after a list of calls.
  abbrev pub books_after : Books → List RunCall → Books
  books_after b [] = b
  books_after b (c ∷ cs) = books_after (called end_room row_room tasks before c b).1 cs

  -- What holds of the answer of each call.
  abbrev pub Throughout : (Result Turn Refusal → Type 0) → Books → List RunCall → Type 0
  Throughout P b [] = Unit {0}
  Throughout P b (c ∷ cs) = P (called end_room row_room tasks before c b).0 × Throughout P (called end_room row_room tasks before c b).1 cs

  -- The stretches after a list of calls, with the row that goes on, and whether that one is lost.
  abbrev pub settled_after : List RunCall → Bool × List Stretch
  settled_after calls =
      settled row_room (books_after opened calls).stretches (books_after opened calls).state.clock (books_after opened calls).row

-- The law of records: in every session on a run of tasks with a warrant, whatever the calls are, the end records are the ended
-- jobs of the transcript unless one was lost, and with the row that goes on the stretches are its ticks unless one was lost.
abbrev pub RecordLaw : Type 0
RecordLaw =
    (tasks : List Figures) (points : List ℤ) (bounds : List ℕ) → Tasks tasks → Warrant tasks points bounds →
    (point : ℕ → ℤ) (before : JobId → JobId → Bool) → Lawful point before →
    ((k : ℕ) → k < length tasks → point k ≡ slice_index_or points k (pos 0)) →
    (end_room row_room : ℕ) (calls : List RunCall) →
    (Throughout end_room row_room tasks before end_kept opened calls →
    EndsAre (reading (zip calls (answers tasks before start calls))) (books_after end_room row_room tasks before opened calls).ends) ×
    (Throughout end_room row_room tasks before row_kept opened calls →
    (settled_after end_room row_room tasks before calls).0 ≡ false →
    StretchesAre (reading (zip calls (answers tasks before start calls))) (settled_after end_room row_room tasks before calls).1)
