-- The meaning of the sample rule with one point for all tasks.
use Rattle.std.specs.Prelude.{ℕ, Bool, ℤ, pos}
use Rattle.model.proofs.Orders.{bottom_lawful, capped_in_range}
use Rattle.model.specs.Orders.{Lawful}
use Rattle.model.specs.Rules.{by_points, capped, lower_number}
use Rattle.model.specs.declared.job.JobId.{JobId}

-- Every number has the same point.
abbrev pub same_point : ℕ → ℕ → ℤ
same_point point i = capped (pos point)

-- The job that was released first goes first, and of equal ones the lower number.
abbrev pub same_before : ℕ → JobId → JobId → Bool
same_before point = by_points (same_point point) lower_number

-- The rule is lawful.
pub same_laws : (point : ℕ) → Lawful (same_point point) (same_before point)
same_laws point = bottom_lawful (same_point point) (λ i. capped_in_range (pos point))
