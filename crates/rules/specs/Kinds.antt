-- The kinds of rule that layers stand on.
use Rattle.std.specs.Prelude.{ℕ, Bool, cond, List, [], ◌∷◌, ℤ, Result, ◌==◌, nat_lt}
use Rattle.model.specs.Checks.{question}
use Rattle.model.specs.Rules.{arrival_point, deadline_point, level_point}
use Rattle.model.specs.declared.figures.Figures.{Figures}
use Rattle.model.specs.declared.refusal.Refusal.{Refusal}
use Rattle.model.specs.declared.refusal.Refusal.TheVariants.{RuleOutOfRange}
use Rattle.rules.specs.declared.bottom.Kind.{Kind}
use Rattle.rules.specs.declared.bottom.Kind.TheVariants.{Deadline, Arrival, Level}

-- The kind of a byte: 0 deadline, 1 arrival, 2 level.
abbrev pub kind_of : ℕ → Kind
kind_of byte = cond (byte == 0) Deadline (cond (byte == 1) Arrival Level)

-- The byte is above 2.
abbrev pub no_kind : ℕ → Bool
no_kind byte = nat_lt 2 byte

-- The kind of a byte, refused if it is none.
abbrev pub kind_from : ℕ → Result Kind Refusal
kind_from byte = question ((no_kind byte, RuleOutOfRange) ∷ []) (kind_of byte)

-- The points of a kind.
abbrev pub bottom_point : Kind → List Figures → ℕ → ℤ
bottom_point Deadline tasks = deadline_point tasks
bottom_point Arrival tasks = arrival_point
bottom_point Level tasks = level_point tasks
