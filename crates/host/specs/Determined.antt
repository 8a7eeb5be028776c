-- A call is determined by what it is given.
use Rattle.std.specs.Prelude.{◌≡◌, ℕ, List}
use Rattle.host.specs.Answered.{Answered}

-- Two calls with the same table, rule and result bytes answer the same and leave the same result bytes.
abbrev pub Determined : Type 0
Determined =
    (table rule before after after' : List ℕ) (answer answer' : ℕ) → Answered table rule before after answer
    → Answered table rule before after' answer' → (answer ≡ answer') × (after ≡ after')
