-- The bits of a word.
use Rattle.std.specs.Prelude.{◌≡◌, ℕ, ◌/◌, ◌%◌, ◌^◌, ◌<◌, Bool, true, false, not, ◌&&◌, Some, None, Option, ◌==◌}

-- Whether bit k of the word w is set: bit k is the last binary digit of w once its k lowest digits are dropped.
abbrev pub has : ℕ → ℕ → Bool
has w k = (w / 2 ^ k) % 2 == 1

-- k is the lowest set bit of the word w of 32 bits: it is set, and no lower bit is.
pub record LowestBit (w k : ℕ) : Type 0 where
  pub inside : k < 32
  pub there : has w k ≡ true
  pub first : (j : ℕ) → j < k → has w j ≡ false

-- The answer is the lowest set bit of w, or that w is 0 and so has none.
abbrev pub Lowest : ℕ → Option ℕ → Type 0
Lowest w (Some k) = LowestBit w k
Lowest w None = w ≡ 0

-- One step of a walk from the word w: its lowest set bit is taken off, and the word v is left; or w is 0, and so is what is left.
abbrev pub TakesLowest : ℕ → Option ℕ → ℕ → Type 0
TakesLowest w (Some k) v = LowestBit w k × ((j : ℕ) → has v j ≡ (has w j && not (j == k)))
TakesLowest w None v = (w ≡ 0) × (v ≡ 0)
