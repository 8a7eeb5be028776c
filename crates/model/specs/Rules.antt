-- The order rules of the library: their points, and who goes first.
use Rattle.std.specs.Prelude.{ℕ, suc, Bool, true, false, cond, ◌&&◌, List, length, ℤ, pos, ◌+ℤ◌, ◌*ℤ◌, neg_ℤ, int_le, int_lt, nat_lt, slice_index_or}
use Rattle.std.specs.Int.{int_max, int_min}
use Rattle.model.specs.Figures.{no_task}
use Rattle.model.specs.Orders.{priority, farthest}
use Rattle.model.specs.Sums.{sum_to}
use Rattle.model.specs.declared.figures.Figures.{Figures}
use Rattle.model.specs.declared.job.JobId.{JobId}

-- A point for each task of a list, and 0 for every other number.
abbrev pub pointed : List Figures → (ℕ → ℤ) → ℕ → ℤ
pointed tasks point i = cond (nat_lt i (length tasks)) (point i) (pos 0)

-- D of a task.
abbrev pub deadline : List Figures → ℕ → ℕ
deadline tasks i = (slice_index_or tasks i no_task).deadline

-- The deadline rule: the point of a task is its D.
abbrev pub deadline_point : List Figures → ℕ → ℤ
deadline_point tasks = pointed tasks (λ i. pos (deadline tasks i))

-- The arrival rule: every point is 0.
abbrev pub arrival_point : ℕ → ℤ
arrival_point i = pos 0

-- The level rule: the point of a task is its D plus D of all lower-numbered tasks.
abbrev pub level_point : List Figures → ℕ → ℤ
level_point tasks = pointed tasks (λ i. pos (sum_to (suc i) (deadline tasks)))

-- A sum that stops at the ends of the range of points.
abbrev pub capped : ℤ → ℤ
capped z = int_max (int_min z (pos farthest)) (neg_ℤ (pos farthest))

-- The heaviest weight of a layer; the lightest is its negative.
abbrev pub heaviest : ℕ
heaviest = 16

-- A weight that a layer may have.
abbrev pub allowed : ℤ → Bool
allowed weight = int_le (neg_ℤ (pos heaviest)) weight && int_le weight (pos heaviest)

-- A layer adds its weight times a figure of the task to the point of the rule below.
abbrev pub weighted_point : (Figures → ℕ) → List Figures → ℤ → (ℕ → ℤ) → ℕ → ℤ
weighted_point figure tasks weight below = pointed tasks (λ i. capped (below i +ℤ (weight *ℤ pos (figure (slice_index_or tasks i no_task)))))

-- Of two jobs the one with the smaller priority point goes first; on equal priority points `tie` decides.
abbrev pub by_points : (ℕ → ℤ) → (JobId → JobId → Bool) → JobId → JobId → Bool
by_points point tie a b =
    cond (int_lt (priority point a) (priority point b)) true (cond (int_lt (priority point b) (priority point a)) false (tie a b))

-- The tie of the three rules: the lower number goes first.
abbrev pub lower_number : JobId → JobId → Bool
lower_number a b = nat_lt a.task b.task
