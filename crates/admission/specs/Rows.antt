-- Tasks side by side with their points and with figures for their bounds.
use Rattle.std.specs.Prelude.{◌≡◌, ℕ, ◌+◌, ◌<◌, ◌≤◌, min, List, length, ℤ, slice_index, slice_index_or}
use Rattle.model.specs.Figures.{Tasks, no_task}
use Rattle.model.specs.declared.figures.Figures.{Figures}

-- Tasks that fit, one point for each, and a figure for each.
pub record Rows (tasks : List Figures) (points : List ℤ) (figures : List ℕ) : Type 0 where
  pub fit : Tasks tasks
  pub one_point : length points ≡ length tasks
  pub one_figure : length tasks ≤ length figures

-- The figures of the first round: C + S of each task, cut at D + 1.
pub record Start (tasks : List Figures) (figures : List ℕ) : Type 0 where
  pub one_each : length figures ≡ length tasks
  pub value : (k : ℕ) → k < length tasks
      → slice_index figures k ≡ min ((slice_index_or tasks k no_task).execution + (slice_index_or tasks k no_task).suspension) ((slice_index_or tasks k no_task).deadline + 1)

-- The first entries of two lists of figures are the same.
abbrev pub Same : List ℕ → List ℕ → ℕ → Type 0
Same figures others many = (k : ℕ) → k < many → slice_index others k ≡ slice_index figures k
