-- The tasks that answers name are tasks of the set.
use Rattle.std.proofs.Common.{◌≡◌, ℕ, Bool, true, false, cond, List, [], ◌∷◌, length, ℤ, Some, None, Err, Option, sym, subst, Ok, Result}
use Rattle.model.specs.Checks.{Checks, call}
use Rattle.model.specs.Machine.{advance, advanced, advancing, complete, next, step, told}
use Rattle.model.specs.Machine.{releasing, suspending, waking}
use Rattle.model.specs.Orders.{Lawful}
use Rattle.model.specs.Processor.{processor}
use Rattle.model.specs.ProcessorLaw.{Rightful}
use Rattle.model.specs.State.{State}
use Rattle.model.specs.declared.call.Answer.{Answer}
use Rattle.model.specs.declared.call.Answer.TheVariants.{Released, Waits, Woken, Finished, Passed}
use Rattle.model.specs.declared.call.Call.{Call}
use Rattle.model.specs.declared.call.Call.TheVariants.{Release, Wait, Wake, Finish, Tick}
use Rattle.model.specs.declared.figures.Figures.{Figures}
use Rattle.model.specs.declared.job.JobId.{JobId}
use Rattle.model.specs.declared.refusal.Refusal.{Refusal}
use Rattle.model.proofs.Processor.{processor_law}
use Rattle.script.specs.Names.{Named}

-- A refusal names no task.
unless_refused : {A : Type 0} (many : ℕ) (wrap : A → Answer) (checks : Checks) (s : State) (answer : A) (after : State)
    → Named many (Ok (wrap answer)) → Named many (told wrap (call checks s answer after)).0
unless_refused many wrap [] s answer after named = named
unless_refused many wrap (check ∷ rest) s answer after named = go check.0 (unless_refused many wrap rest s answer after named)
  where
    go : (b : Bool) → Named many (told wrap (call rest s answer after)).0
        → Named many (told wrap (cond b (Err check.1, s) (call rest s answer after))).0
    go true others = tt
    go false others = others

module _ (tasks : List Figures) (before : JobId → JobId → Bool) (s : State) where
  finished : (chosen : Option ℕ) → Rightful tasks before s chosen → Named (length tasks) (told Finished (complete tasks chosen s)).0
  finished None idle = tt
  finished (Some k) first = first.of_the_set

  passed : (chosen : Option ℕ) → Rightful tasks before s chosen → Named (length tasks) (told Passed (advance tasks chosen s)).0
  passed None idle = unless_refused (length tasks) Passed (advancing tasks None s) s (advanced tasks None s) (next tasks None s) tt
  passed (Some k) first =
      unless_refused (length tasks) Passed (advancing tasks (Some k) s) s (advanced tasks (Some k) s) (next tasks (Some k) s)
      first.of_the_set

  -- The tasks that an answer of the machine names are tasks of the set.
  named : (point : ℕ → ℤ) → Lawful point before → (c : Call) → Named (length tasks) (step tasks before c s).0
  named point lawful (Release task) = unless_refused (length tasks) Released (releasing tasks task s) s _ _ tt
  named point lawful Wait = unless_refused (length tasks) Waits (suspending tasks (processor tasks before s) s) s _ _ tt
  named point lawful (Wake task) = unless_refused (length tasks) Woken (waking tasks task s) s _ _ tt
  named point lawful Finish = finished (processor tasks before s) (processor_law point before lawful tasks s).0
  named point lawful Tick = passed (processor tasks before s) (processor_law point before lawful tasks s).0

-- The same of an answer that is told, and of tasks that stay.
pub named_as : (tasks before_tasks : List Figures) (before : JobId → JobId → Bool) (s : State) (point : ℕ → ℤ) → Lawful point before
    → (c : Call) (a : Result Answer Refusal) → tasks ≡ before_tasks → a ≡ (step before_tasks before c s).0 → Named (length tasks) a
named_as tasks before_tasks before s point lawful c a same told_is =
    subst (λ (ts : List Figures). Named (length ts) a) (sym same)
    (subst (Named (length before_tasks)) (sym told_is) (named before_tasks before s point lawful c))
