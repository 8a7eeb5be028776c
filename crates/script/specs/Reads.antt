-- Reading operands. No public contract cites this.
use Rattle.std.specs.Prelude.{◌≡◌, ℕ, ◌<◌, ◌≤◌, List, [], length, take, drop, Result, MatchResult}
use Rattle.model.specs.declared.refusal.Refusal.{Refusal}
use Rattle.model.specs.declared.refusal.Refusal.TheVariants.{OperandsCutOff}

-- So many bytes are taken from the front, and the others are left; where they are cut off, nothing is left.
abbrev pub Taken : ℕ → List ℕ → Result (List ℕ) Refusal → List ℕ → Type 0
Taken many bytes r left =
    MatchResult r (λ front. (many ≤ length bytes) × (front ≡ take many bytes) × (left ≡ drop many bytes))
    (λ why. (length bytes < many) × (why ≡ OperandsCutOff) × (left ≡ []))
