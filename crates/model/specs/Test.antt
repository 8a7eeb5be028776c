-- The admission test: which bounds on the response of every task hold, and the smallest of them.
use Rattle.std.specs.Prelude.{◌≡◌, ℕ, ◌+◌, ◌-◌, ◌*◌, ◌/◌, ◌<◌, ◌≤◌, cond, List, length, ℤ, pos, negsuc, ◌+ℤ◌, ◌-ℤ◌, ◌==◌, ◌≢◌, slice_index, slice_index_or}
use Rattle.model.specs.Figures.{no_task}
use Rattle.model.specs.Sums.{sum_to}
use Rattle.model.specs.declared.figures.Figures.{Figures}

-- A whole number divided by a period, rounded up; 0 at or below 0.
abbrev pub periods : ℤ → ℕ → ℕ
periods (pos n) period = (n + (period - 1)) / period
periods (negsuc n) period = 0

-- The count of another task's jobs that can come before a job of the own task, at an offset.
abbrev pub count : ℤ → ℤ → ℕ → ℕ → ℕ → ℕ
count own other bound period offset = periods (((own -ℤ other) +ℤ pos bound) -ℤ pos offset) period

module _ (tasks : List Figures) (points : List ℤ) (bounds : List ℕ) where
  -- What task i takes from a job of task k at offset q: its count times its C, nothing for the own task.
  abbrev pub share : ℕ → ℕ → ℕ → ℕ
  share k q i = cond (i == k) 0 (count (slice_index_or points k (pos 0)) (slice_index_or points i (pos 0)) (slice_index bounds i)
      (slice_index_or tasks i no_task).period q * (slice_index_or tasks i no_task).execution)

  -- The total of task k at offset q: its own C + S + q, and what every other task takes.
  abbrev pub total : ℕ → ℕ → ℕ
  total k q = (((slice_index_or tasks k no_task).execution + (slice_index_or tasks k no_task).suspension) + q) + sum_to (length tasks) (share k q)

-- The bounds are a warrant: every bound is from 1 to its task's D, and for every task some offset below D has a total at
-- most its bound.
pub record Warrant (tasks : List Figures) (points : List ℤ) (bounds : List ℕ) : Type 0 where
  pub one_each : length bounds ≡ length tasks
  pub positive : (k : ℕ) → k < length tasks → 1 ≤ slice_index bounds k
  pub in_time : (k : ℕ) → k < length tasks → slice_index bounds k ≤ (slice_index_or tasks k no_task).deadline
  pub covered : (k : ℕ) → k < length tasks → (q : ℕ) × (q < (slice_index_or tasks k no_task).deadline) ×
      (total tasks points bounds k q ≤ slice_index bounds k)

-- The smallest bounds: a warrant, and in every warrant each bound is at least as large.
pub record Smallest (tasks : List Figures) (points : List ℤ) (bounds : List ℕ) : Type 0 where
  pub warrant : Warrant tasks points bounds
  pub least : (others : List ℕ) → Warrant tasks points others → (k : ℕ) → k < length tasks → slice_index bounds k ≤ slice_index others k

-- The smallest offset of task k whose total under the bounds equals its bound.
pub record FirstOffset (tasks : List Figures) (points : List ℤ) (bounds : List ℕ) (k q : ℕ) : Type 0 where
  pub inside : q < (slice_index_or tasks k no_task).deadline
  pub attains : total tasks points bounds k q ≡ slice_index bounds k
  pub first : (other : ℕ) → other < q → total tasks points bounds k other ≢ slice_index bounds k
