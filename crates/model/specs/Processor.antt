-- Which job has the processor.
use Rattle.std.specs.Prelude.{ℕ, zero, suc, Bool, true, not, ◌&&◌, ◌||◌, List, length, None, Option, ◌==◌}
use Rattle.std.specs.Option.{option_or}
use Rattle.std.specs.Bool.{then_some}
use Rattle.model.specs.State.{State, job, identity, is_ready}
use Rattle.model.specs.declared.figures.Figures.{Figures}
use Rattle.model.specs.declared.job.JobId.{JobId}

-- Every number below n passes the test.
abbrev pub every_below : ℕ → (ℕ → Bool) → Bool
every_below zero test = true
every_below (suc n) test = every_below n test && test n

-- The first number below n that passes the test, if one does.
abbrev pub first_below : ℕ → (ℕ → Bool) → Option ℕ
first_below zero test = None
first_below (suc n) test = option_or (first_below n test) (then_some (test n) n)

module _ (tasks : List Figures) (before : JobId → JobId → Bool) (s : State) where
  -- Task i has a ready job, and this job goes before the ready jobs of all other tasks.
  abbrev pub foremost : ℕ → Bool
  foremost i =
      is_ready (job s i).phase
      && every_below (length tasks) (λ j. (j == i) || (not (is_ready (job s j).phase) || before (identity s i) (identity s j)))

  -- The task whose job has the processor: the ready job that goes before all other ready jobs; none if no job is ready.
  abbrev pub processor : Option ℕ
  processor = first_below (length tasks) foremost
