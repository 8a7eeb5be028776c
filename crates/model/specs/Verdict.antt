-- What the admission test answers.
use Rattle.std.specs.Prelude.{◌≡◌, ℕ, ◌<◌, ◌≤◌, List, map, length, ℤ, slice_index, slice_index_or}
use Rattle.std.specs.List.{range_with_len}
use Rattle.model.specs.Figures.{no_task}
use Rattle.model.specs.Test.{total, Warrant, Smallest, FirstOffset}
use Rattle.model.specs.declared.figures.Figures.{Figures}

-- The points that a rule gives to the first tasks: point 0, …, point (n − 1).
abbrev pub first_points : (ℕ → ℤ) → ℕ → List ℤ
first_points point n = map point (range_with_len 0 n)

-- Yes: the bounds are the smallest, and each offset is the smallest that attains its task's bound.
pub record Admits (tasks : List Figures) (points : List ℤ) (bounds offsets : List ℕ) : Type 0 where
  pub smallest : Smallest tasks points bounds
  pub one_each : length offsets ≡ length tasks
  pub first : (k : ℕ) → k < length tasks → FirstOffset tasks points bounds k (slice_index offsets k)

-- No: no bounds are a warrant.
abbrev pub Refuses : List Figures → List ℤ → Type 0
Refuses tasks points = (bounds : List ℕ) → Warrant tasks points bounds → ⊥

-- The smallest total of task k under some bounds, over the offsets below its D, and the smallest offset that attains it.
pub record SmallestTotal (tasks : List Figures) (points : List ℤ) (bounds : List ℕ) (k least q : ℕ) : Type 0 where
  pub inside : q < (slice_index_or tasks k no_task).deadline
  pub attains : total tasks points bounds k q ≡ least
  pub smallest : (other : ℕ) → other < (slice_index_or tasks k no_task).deadline → least ≤ total tasks points bounds k other
  pub first : (other : ℕ) → other < q → least < total tasks points bounds k other

-- Every total of task k under some bounds passes its D.
abbrev pub AllLate : List Figures → List ℤ → List ℕ → ℕ → Type 0
AllLate tasks points bounds k =
    (q : ℕ) → q < (slice_index_or tasks k no_task).deadline → (slice_index_or tasks k no_task).deadline < total tasks points bounds k q
