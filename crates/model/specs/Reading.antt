-- What a transcript shows: the granted ticks and the jobs, read from the calls of one run and their answers alone.
use Rattle.std.specs.Prelude.{ℕ, ◌+◌, Bool, true, false, cond, not, ◌&&◌, ◌||◌, List, [], ◌∷◌, length, Some, None, Ok, Err, Option, Result, ◌==◌}
use Rattle.model.specs.declared.call.Answer.{Answer}
use Rattle.model.specs.declared.call.Answer.TheVariants.{Released, Waits, Woken, Finished, Passed}
use Rattle.model.specs.declared.call.Call.{Call}
use Rattle.model.specs.declared.call.Call.TheVariants.{Release, Wait, Wake, Finish, Tick}
use Rattle.model.specs.declared.call.Ended.{Ended}
use Rattle.model.specs.declared.call.Ticked.{Ticked}
use Rattle.model.specs.declared.refusal.Refusal.{Refusal}

-- A transcript: the calls on one run, each with its answer, oldest first.
abbrev pub Transcript : Type 0
Transcript = List (Call × Result Answer Refusal)

-- What became of a job: it is open, or a tick ended it, or a finish ended it and answered this of it. An end is known by
-- the number of granted ticks up to it, a tick that ends the job included.
pub data Fate : Type 0 where
  still_open : Fate
  by_tick : ℕ → Fate
  by_finish : ℕ → Ended → Fate

-- A job, as a transcript shows it: the number of granted ticks before its release, the ticks given to it, its fate.
pub record Observed : Type 0 where
  pub release : ℕ
  pub given : ℕ
  pub fate : Fate

-- A reading: the granted ticks, newest first, each with the task that it was given to, or none; the jobs of every task,
-- newest first; and whether every tick and every finish found an open job of the task it named, and no granted release
-- found an open job of its task.
pub record Reading : Type 0 where
  pub ticks : List (Option ℕ)
  pub jobs : ℕ → List Observed
  pub whole : Bool

-- The reading of the empty transcript.
abbrev pub blank : Reading
blank = record { ticks = []; jobs = λ _. []; whole = true }

-- The number of granted ticks.
abbrev pub now : Reading → ℕ
now r = length r.ticks

-- The job is open.
abbrev pub undecided : Fate → Bool
undecided still_open = true
undecided (by_tick end) = false
undecided (by_finish end answered) = false

-- One of the jobs is open.
abbrev pub any_open : List Observed → Bool
any_open [] = false
any_open (j ∷ js) = undecided j.fate || any_open js

-- The jobs, newest first, with a change to the earliest one that is open.
abbrev pub on_earliest : (Observed → Observed) → List Observed → List Observed
on_earliest f [] = []
on_earliest f (j ∷ js) = cond (any_open js) (j ∷ on_earliest f js) (cond (undecided j.fate) (f j) j ∷ js)

-- A change to the earliest open job of a task; without one the reading is not whole.
abbrev pub for_earliest : ℕ → (Observed → Observed) → Reading → Reading
for_earliest task f r =
    record {
      ticks = r.ticks;
      jobs = λ i. cond (i == task) (on_earliest f (r.jobs task)) (r.jobs i);
      whole = r.whole && any_open (r.jobs task);
    }

-- A granted release opens a job of its task.
abbrev pub with_release : ℕ → Reading → Reading
with_release task r =
    record {
      ticks = r.ticks;
      jobs = λ i. cond (i == task) (record { release = now r; given = 0; fate = still_open } ∷ r.jobs task) (r.jobs i);
      whole = r.whole && not (any_open (r.jobs task));
    }

-- A job with a tick more, which ends it if so, at this number of granted ticks.
abbrev pub given_one : ℕ → Bool → Observed → Observed
given_one ticks ended j =
    record { release = j.release; given = j.given + 1; fate = cond ended (by_tick ticks) j.fate }

-- A job that a finish ends, at this number of granted ticks.
abbrev pub finished : ℕ → Ended → Observed → Observed
finished ticks e j = record { release = j.release; given = j.given; fate = by_finish ticks e }

-- A tick, already counted, is given to the earliest open job of the task that it answers, which ends there if the tick
-- answers so; an idle tick is given to none.
abbrev pub with_supply : Option ℕ → Bool → Reading → Reading
with_supply None ended r = r
with_supply (Some task) ended r = for_earliest task (given_one (now r) ended) r

-- Every granted tick counts, an idle one too.
abbrev pub with_tick : Ticked → Reading → Reading
with_tick t r =
    with_supply t.ran t.ended (record { ticks = t.ran ∷ r.ticks; jobs = r.jobs; whole = r.whole })

-- A finish ends the earliest open job of the task that it answers.
abbrev pub with_finish : Ended → Reading → Reading
with_finish e r = for_earliest e.task (finished (now r) e) r

-- The reading with one more call and its answer. A refused call counts as nothing; waits and wakes open and end no job.
abbrev pub read : Call → Result Answer Refusal → Reading → Reading
read (Release task) (Ok (Released clock)) r = with_release task r
read Wait (Ok (Released clock)) r = r
read (Wake task) (Ok (Released clock)) r = r
read Finish (Ok (Released clock)) r = r
read Tick (Ok (Released clock)) r = r
read call (Ok (Waits task)) r = r
read call (Ok (Woken waited)) r = r
read call (Ok (Finished e)) r = with_finish e r
read call (Ok (Passed t)) r = with_tick t r
read call (Err why) r = r

-- The reading after more of a transcript.
abbrev pub read_on : Reading → Transcript → Reading
read_on r [] = r
read_on r (entry ∷ rest) = read_on (read entry.0 entry.1 r) rest

-- The reading of a transcript.
abbrev pub reading : Transcript → Reading
reading transcript = read_on blank transcript
