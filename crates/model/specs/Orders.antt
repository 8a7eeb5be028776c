-- Orders between jobs, and the laws that every order rule shows.
use Rattle.std.specs.Prelude.{◌≡◌, ℕ, Bool, true, false, not, ℤ, pos, ◌+ℤ◌, neg_ℤ, ◌≤ℤ◌, ◌<ℤ◌, ◌≢◌}
use Rattle.model.specs.declared.job.JobId.{JobId}

-- The largest point; the smallest is its negative.
abbrev pub farthest : ℕ
farthest = 1_000_000_000

-- A point in the range of points.
pub record InRange (point : ℤ) : Type 0 where
  pub low : neg_ℤ (pos farthest) ≤ℤ point
  pub high : point ≤ℤ pos farthest

-- The priority point of a job: its release clock plus its task's point.
abbrev pub priority : (ℕ → ℤ) → JobId → ℤ
priority point a = pos a.release +ℤ point a.task

-- The laws of an order: every point is in the range; of two different jobs exactly one goes before the other, and no job
-- goes before itself; the relation is transitive; the job with the smaller priority point goes before the other.
pub record Lawful (point : ℕ → ℤ) (before : JobId → JobId → Bool) : Type 0 where
  pub in_range : (task : ℕ) → InRange (point task)
  pub not_itself : (a : JobId) → before a a ≡ false
  pub exactly_one : (a b : JobId) → (a ≢ b) → before a b ≡ not (before b a)
  pub transitive : (a b c : JobId) → before a b ≡ true → before b c ≡ true → before a c ≡ true
  pub by_priority : (a b : JobId) → priority point a <ℤ priority point b → before a b ≡ true
