-- The meaning of the sample rule: points of its own, ties to the higher number.
use Rattle.std.specs.Prelude.{ℕ, Bool, List, ℤ, pos, slice_index_or}
use Rattle.model.proofs.Orders.{capped_in_range, lawful, lower_ties, turned}
use Rattle.model.specs.Orders.{Lawful}
use Rattle.model.specs.Rules.{by_points, capped, lower_number}
use Rattle.model.specs.declared.job.JobId.{JobId}

-- The point of a number: what is listed, stopped at the ends of the range, and 0 past the list.
abbrev pub higher_point : List ℤ → ℕ → ℤ
higher_point points i = capped (slice_index_or points i (pos 0))

-- The higher number goes first.
abbrev pub higher_number : JobId → JobId → Bool
higher_number a b = lower_number b a

-- The job with the smaller priority point goes first, and of equal ones the higher number.
abbrev pub higher_before : List ℤ → JobId → JobId → Bool
higher_before points = by_points (higher_point points) higher_number

-- The rule is lawful.
pub higher_laws : (points : List ℤ) → Lawful (higher_point points) (higher_before points)
higher_laws points =
    lawful (higher_point points) higher_number (λ i. capped_in_range (slice_index_or points i (pos 0)))
    (turned (higher_point points) lower_number (lower_ties (higher_point points)))
