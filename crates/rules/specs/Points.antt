-- What stored points mean.
use Rattle.std.specs.Prelude.{ℕ, ℤ, pos, slice_index_or}
use Rattle.model.specs.Orders.{InRange}
use Rattle.rules.specs.declared.points.Points.{Points}

-- The point of a task number: what is stored for it, and 0 for a number past the room.
abbrev pub point_of : Points → ℕ → ℤ
point_of p i = slice_index_or p.at i (pos 0)

-- Every point is in the range.
pub in_range : (p : Points) (i : ℕ) → InRange (point_of p i)
in_range p i = record { low = p.low i; high = p.high i }
