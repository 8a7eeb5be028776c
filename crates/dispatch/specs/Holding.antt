-- What a whole run in one call answers, and what it promises.
use Rattle.std.specs.Prelude.{◌≡◌, ℕ, Bool, List, [], ◌∷◌, map, ℤ, Some, None, Option, Result, MatchResult}
use Rattle.admission.specs.Views.{bounds_of, tasks_of}
use Rattle.admission.specs.declared.accepted.Accepted.{Accepted}
use Rattle.model.specs.Machine.{after, answers, step, totals}
use Rattle.model.specs.Promises.{Promises}
use Rattle.model.specs.Reading.{Transcript, reading}
use Rattle.model.specs.State.{State, start}
use Rattle.model.specs.declared.call.Answer.{Answer}
use Rattle.model.specs.declared.call.Call.{Call}
use Rattle.model.specs.declared.figures.Figures.{Figures}
use Rattle.model.specs.declared.job.JobId.{JobId}
use Rattle.model.specs.declared.refusal.Refusal.{Refusal}
use Rattle.model.specs.declared.refusal.Refusal.TheVariants.{OtherPoints}
use Rattle.dispatch.specs.Runs.{Agree}
use Rattle.dispatch.specs.declared.holder.Entry.{Entry}
use Rattle.dispatch.specs.declared.run.Totals.{Totals}

-- The calls of a list of entries.
abbrev pub calls : List Entry → List Call
calls = map (λ e. e.call)

-- The entry with its answer, as a transcript has it; nothing where no answer stands.
abbrev pub paired : Call → Option (Result Answer Refusal) → Transcript → Transcript
paired call None rest = rest
paired call (Some answer) rest = (call, answer) ∷ rest

-- The transcript that the entries are: each call with the answer that stands beside it.
abbrev pub transcript : List Entry → Transcript
transcript [] = []
transcript (e ∷ es) = paired e.call e.answer (transcript es)

-- The entries with the answers of the machine from a state on.
abbrev pub filled : List Figures → (JobId → JobId → Bool) → State → List Entry → List Entry
filled tasks before s [] = []
filled tasks before s (e ∷ es) =
    record { call = e.call; answer = Some (step tasks before e.call s).0 } ∷ filled tasks before (step tasks before e.call s).1 es

-- A run that was made: the calls stand as they stood, each with the answer of the machine under this order; the totals are the machine's;
-- and the transcript handed back keeps all promises, with the figures and bounds of the set.
pub record Made (set : Accepted) (before : JobId → JobId → Bool) (given back : List Entry) (t : Totals) : Type 0 where
  pub same_calls : calls back ≡ calls given
  pub answered : map (λ e. e.answer) back ≡ map Some (answers (tasks_of set) before start (calls given))
  pub clock : t.clock ≡ (totals (tasks_of set) (after (tasks_of set) before start (calls given))).0
  pub open_tasks : t.«open» ≡ (totals (tasks_of set) (after (tasks_of set) before start (calls given))).1
  pub promises : Promises (tasks_of set) (bounds_of set) (reading (transcript back))

-- A run that was not made, since some point is another: every entry is as it stood.
pub record NotMade (set : Accepted) (points : ℕ → ℤ) (given back : List Entry) (refusal : Refusal) : Type 0 where
  pub why : refusal ≡ OtherPoints
  pub differ : Agree set points → ⊥
  pub same : back ≡ given

-- What holding a run answers: it is made if the points agree with those of the set, and refused exactly if they do not.
abbrev pub Held : Accepted → (ℕ → ℤ) → (JobId → JobId → Bool) → List Entry → List Entry → Result Totals Refusal → Type 0
Held set points before given back r =
    MatchResult r (λ t. Agree set points × Made set before given back t) (λ e. NotMade set points given back e)
