-- What every accepted set holds.
use Rattle.std.specs.Prelude.{◌≡◌, ℕ, ◌<◌, ◌≤◌, List, map, length, ℤ, slice_index, slice_index_or}
use Rattle.model.specs.Figures.{no_task}
use Rattle.model.specs.Test.{total}
use Rattle.model.specs.declared.figures.Figures.{Figures}
use Rattle.admission.specs.declared.accepted.Admitted.{Admitted}

-- A point, a bound and an offset for each task.
abbrev pub OneEach : List Figures → List ℤ → List ℕ → List ℕ → Type 0
OneEach tasks points bounds offsets = (length points ≡ length tasks) × (length bounds ≡ length tasks) × (length offsets ≡ length tasks)

-- The offset that the set keeps for task k shows that its bound holds: the total there is at most the bound.
abbrev pub Shown : List Figures → List ℤ → List ℕ → List ℕ → ℕ → Type 0
Shown tasks points bounds offsets k =
    (1 ≤ slice_index bounds k) × (slice_index bounds k ≤ (slice_index_or tasks k no_task).deadline) × (slice_index offsets k < (slice_index_or tasks k no_task).deadline)
    × (total tasks points bounds k (slice_index offsets k) ≤ slice_index bounds k)

-- Every bound of the set is shown to hold.
abbrev pub AllShown : List Figures → List ℤ → List ℕ → List ℕ → Type 0
AllShown tasks points bounds offsets = (k : ℕ) → k < length tasks → Shown tasks points bounds offsets k

-- The figures of all rows, in their order.
abbrev pub figures_in : List Admitted → List Figures
figures_in rows = map (λ a. a.figures) rows

-- The points.
abbrev pub points_in : List Admitted → List ℤ
points_in rows = map (λ a. a.point) rows

-- The bounds.
abbrev pub bounds_in : List Admitted → List ℕ
bounds_in rows = map (λ a. a.bound) rows

-- The offsets.
abbrev pub offsets_in : List Admitted → List ℕ
offsets_in rows = map (λ a. a.offset) rows
