-- What every run promises, over the figures and bounds of the tasks and a reading of its transcript.
use Rattle.std.specs.Prelude.{◌≡◌, ℕ, suc, ◌+◌, ◌-◌, ◌*◌, ◌<◌, ◌≤◌, true, cond, List, [], ◌∷◌, length, take, drop, pos, Some, None, Option, ◌==◌, slice_index, slice_index_or}
use Rattle.std.specs.List.{AllByRecursion}
use Rattle.model.specs.Figures.{no_task}
use Rattle.model.specs.Reading.{Reading, Fate, still_open, by_tick, by_finish, now}
use Rattle.model.specs.Test.{periods}
use Rattle.model.specs.declared.figures.Figures.{Figures}

-- Bounded response of a job under its task's bound, at the number of granted ticks so far: an open job is younger than the
-- bound, and an ended job ended at a distance from its release of at most the bound.
abbrev pub Responds : ℕ → ℕ → ℕ → Fate → Type 0
Responds bound ticks release still_open = ticks - release < bound
Responds bound ticks release (by_tick end) = end - release ≤ bound
Responds bound ticks release (by_finish end answered) = end - release ≤ bound

-- Exact supply of a job by its task's C: a job that a tick ended was given exactly C; any other was given fewer, and a
-- finish answered that count and the distance from the release.
abbrev pub Supplied : ℕ → ℕ → ℕ → Fate → Type 0
Supplied execution release given still_open = given < execution
Supplied execution release given (by_tick end) = given ≡ execution
Supplied execution release given (by_finish end answered) =
    (given < execution) × (answered.given ≡ given) × (answered.age ≡ end - release)

-- How many of the ticks were given to a task.
abbrev pub given_to : ℕ → List (Option ℕ) → ℕ
given_to task [] = 0
given_to task (None ∷ ticks) = given_to task ticks
given_to task (Some other ∷ ticks) = cond (task == other) (suc (given_to task ticks)) (given_to task ticks)

-- The promises of a run.
pub record Promises (tasks : List Figures) (bounds : List ℕ) (r : Reading) : Type 0 where
  -- Every tick and every finish found an open job, and no release did; all jobs are of tasks of the set.
  pub whole : r.whole ≡ true
  pub of_the_set : (k : ℕ) → length tasks ≤ k → r.jobs k ≡ []
  -- Every job responds within its task's bound R, and is given what its task's C says.
  pub response : (k : ℕ) → k < length tasks →
      AllByRecursion (λ j. Responds (slice_index bounds k) (now r) j.release j.fate) (r.jobs k)
  pub supply : (k : ℕ) → k < length tasks →
      AllByRecursion (λ j. Supplied (slice_index_or tasks k no_task).execution j.release j.given j.fate) (r.jobs k)
  -- Of any `long` ticks in a row, whatever ticks came later, at most C × ⌈(long + R − 1) / T⌉ are given to a task.
  pub window : (k : ℕ) → k < length tasks → (later long : ℕ) → 1 ≤ long →
      given_to k (take long (drop later r.ticks))
      ≤ (slice_index_or tasks k no_task).execution * periods (pos ((long + slice_index bounds k) - 1)) (slice_index_or tasks k no_task).period
