-- Tests that ask for less than the test of the library, and runs that they would mislead.
use Rattle.std.specs.Prelude.{◌≡◌, ℕ, ◌+◌, ◌-◌, ◌*◌, ◌/◌, Bool, true, cond, ◌&&◌, List, [], ◌∷◌, length, ℤ, pos, negsuc, ◌+ℤ◌, ◌-ℤ◌, ◌==◌, nat_le, slice_index, slice_index_or}
use Rattle.model.specs.Figures.{Tasks, no_task}
use Rattle.model.specs.Orders.{Lawful}
use Rattle.model.specs.Processor.{every_below}
use Rattle.model.specs.Promises.{Promises}
use Rattle.model.specs.Rules.{deadline_point}
use Rattle.model.specs.Sums.{sum_to}
use Rattle.model.specs.Test.{count, total}
use Rattle.model.specs.WorkedRuns.{Run, by_deadline, deadlines, figures, late_calls, light, shown}
use Rattle.model.specs.declared.call.Call.TheVariants.{Release, Wait, Tick}
use Rattle.model.specs.declared.figures.Figures.{Figures}

-- The total of a task at an offset, by what the own task needs and the count of another's jobs.
abbrev pub total_by : (Figures → ℕ) → (ℤ → ℤ → ℕ → ℕ → ℕ → ℕ) → List Figures → List ℤ → List ℕ → ℕ → ℕ → ℕ
total_by own count tasks points bounds k q =
    (own (slice_index_or tasks k no_task) + q)
    + sum_to (length tasks)
    (λ i. cond (i == k) 0
    (count (slice_index_or points k (pos 0)) (slice_index_or points i (pos 0)) (slice_index bounds i) (slice_index_or tasks i no_task).period q
    * (slice_index_or tasks i no_task).execution))

-- What the own task needs: C + S.
abbrev pub needs : Figures → ℕ
needs f = f.execution + f.suspension

-- The same without S.
abbrev pub needs_without_suspension : Figures → ℕ
needs_without_suspension f = f.execution

-- The same with C − 1 in the place of C.
abbrev pub needs_one_less : Figures → ℕ
needs_one_less f = (f.execution - 1) + f.suspension

-- The count without the other's bound.
abbrev pub count_without_bound : ℤ → ℤ → ℕ → ℕ → ℕ → ℕ
count_without_bound own other bound period offset = count own other 0 period offset

-- A whole number divided by a period, rounded down; 0 below 0.
abbrev pub whole_periods : ℤ → ℕ → ℕ
whole_periods (pos n) period = n / period
whole_periods (negsuc n) period = 0

-- The count, rounded down.
abbrev pub count_rounded_down : ℤ → ℤ → ℕ → ℕ → ℕ → ℕ
count_rounded_down own other bound period offset = whole_periods (((own -ℤ other) +ℤ pos bound) -ℤ pos offset) period

-- The total of the test is the one by C + S and its count.
abbrev pub SameTotal : Type 0
SameTotal =
    (tasks : List Figures) (points : List ℤ) (bounds : List ℕ) (k q : ℕ) →
    total_by needs count tasks points bounds k q ≡ total tasks points bounds k q

-- Every bound is from 1 to its task's D, and the total at offset 0 is at most the bound.
abbrev pub accepts : (ℕ → ℕ → ℕ) → List Figures → List ℕ → Bool
accepts total tasks bounds =
    every_below (length tasks)
    (λ k. nat_le 1 (slice_index bounds k) && (nat_le (slice_index bounds k) (slice_index_or tasks k no_task).deadline && nat_le (total k 0) (slice_index bounds k)))

-- A test by these totals is misled: it accepts the bounds, and though nothing is wrong with the tasks and the order, the run
-- breaks a promise.
pub record Misled (own : Figures → ℕ) (count : ℤ → ℤ → ℕ → ℕ → ℕ → ℕ) (run : Run) : Type 0 where
  pub allowed : Tasks run.tasks
  pub lawful : Lawful (deadline_point run.tasks) (by_deadline run.tasks)
  pub accepted : accepts (total_by own count run.tasks (deadlines run.tasks) run.bounds) run.tasks run.bounds ≡ true
  pub broken : Promises run.tasks run.bounds (shown run) → ⊥

-- A job that waits.
abbrev pub waiter : Run
waiter = record { tasks = figures 2 3 5 9 ∷ []; bounds = 2 ∷ []; calls = Release 0 ∷ Wait ∷ Tick ∷ Tick ∷ [] }

-- A job that needs two ticks.
abbrev pub two_ticks : Run
two_ticks = record { tasks = figures 2 0 5 9 ∷ []; bounds = 1 ∷ []; calls = Release 0 ∷ Tick ∷ [] }

-- A job that meets one released long before.
abbrev pub late_comer : Run
late_comer = record { tasks = light; bounds = 3 ∷ 5 ∷ []; calls = late_calls }
