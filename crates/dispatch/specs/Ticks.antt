-- The two halves of a tick: the supply of the job with the processor, and the delay of the waiting jobs.
use Rattle.std.specs.Prelude.{ℕ, Bool, true, false, cond, List, is_some, Some, Option, slice_index_or}
use Rattle.std.specs.Option.{unwrap_or}
use Rattle.model.specs.Figures.{no_task}
use Rattle.model.specs.Machine.{counted, runs, spent, ticked}
use Rattle.model.specs.State.{State, job}
use Rattle.model.specs.declared.figures.Figures.{Figures}

module _ (tasks : List Figures) (chosen : Option ℕ) (s : State) where
  -- The job with the processor ends at this tick.
  abbrev pub ends : Bool
  ends = spent (slice_index_or tasks (unwrap_or chosen 0) no_task) (is_some chosen) (counted (is_some chosen) (job s (unwrap_or chosen 0)))

  -- The job with the processor was given the tick.
  abbrev pub supplied_state : State
  supplied_state =
      record {
        clock = s.clock;
        latest = λ i. cond (runs chosen i) (Some (ticked (slice_index_or tasks i no_task) true (job s i))) (s.latest i);
      }

-- The jobs of some tasks have waited one tick more.
abbrev pub delayed_state : List Figures → (ℕ → Bool) → State → State
delayed_state tasks chosen s =
    record {
      clock = s.clock;
      latest = λ i. cond (chosen i) (Some (ticked (slice_index_or tasks i no_task) false (job s i))) (s.latest i);
    }
