-- What making a layer answers.
use Rattle.std.specs.Prelude.{◌≡◌, ℕ, true, false, List, ℤ, Result, MatchResult}
use Rattle.model.specs.Rules.{allowed, weighted_point}
use Rattle.model.specs.declared.figures.Figures.{Figures}
use Rattle.model.specs.declared.refusal.Refusal.{Refusal}
use Rattle.model.specs.declared.refusal.Refusal.TheVariants.{RuleOutOfRange}
use Rattle.rules.specs.Points.{point_of}
use Rattle.rules.specs.declared.weighted.Weighted.{Weighted}

-- A layer over `below` with the weighted points if the weight is allowed, and the refusal exactly if it is not.
abbrev pub Layered : {R : Type 0} → (Figures → ℕ) → List Figures → ℤ → R → (ℕ → ℤ) → Result (Weighted R) Refusal → Type 0
Layered figure tasks weight below points r =
    MatchResult r
    (λ s. (allowed weight ≡ true) × (point_of s.points ≡ weighted_point figure tasks weight points) × (s.below.now ≡ below))
    (λ e. (allowed weight ≡ false) × (e ≡ RuleOutOfRange))
