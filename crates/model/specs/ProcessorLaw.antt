-- The law of the processor.
use Rattle.std.specs.Prelude.{◌≡◌, ℕ, ◌<◌, Bool, true, false, List, length, ℤ, Some, None, Option, ◌≢◌}
use Rattle.model.specs.Orders.{Lawful}
use Rattle.model.specs.Processor.{processor}
use Rattle.model.specs.State.{State, job, identity, is_ready}
use Rattle.model.specs.declared.figures.Figures.{Figures}
use Rattle.model.specs.declared.job.JobId.{JobId}

-- The job of task i is ready, and goes before every other ready job.
pub record Foremost (tasks : List Figures) (before : JobId → JobId → Bool) (s : State) (i : ℕ) : Type 0 where
  pub of_the_set : i < length tasks
  pub ready : is_ready (job s i).phase ≡ true
  pub first : (j : ℕ) → j < length tasks → is_ready (job s j).phase ≡ true → (j ≢ i) →
      before (identity s i) (identity s j) ≡ true

-- Who may have the processor: a job that is ready and goes before every other ready job; none only if no job is ready.
abbrev pub Rightful : (tasks : List Figures) (before : JobId → JobId → Bool) (s : State) → Option ℕ → Type 0
Rightful tasks before s None = (j : ℕ) → j < length tasks → is_ready (job s j).phase ≡ false
Rightful tasks before s (Some i) = Foremost tasks before s i

-- Under a lawful order, in every state: whoever has the processor has it rightfully, and the ready job that goes before
-- every other one has it.
abbrev pub ProcessorLaw : Type 0
ProcessorLaw =
    (point : ℕ → ℤ) (before : JobId → JobId → Bool) → Lawful point before → (tasks : List Figures) (s : State) →
    Rightful tasks before s (processor tasks before s) ×
    ((i : ℕ) → Foremost tasks before s i → processor tasks before s ≡ Some i)
