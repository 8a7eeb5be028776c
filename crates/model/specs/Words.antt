-- Sets of tasks as words: bit i stands for task i.
use Rattle.std.specs.Prelude.{ℕ, ◌^◌, Bool, cond}
use Rattle.model.specs.Sums.{sum_to}

-- The word of the numbers below n that pass the test.
abbrev pub word : ℕ → (ℕ → Bool) → ℕ
word n test = sum_to n (λ i. cond (test i) (2 ^ i) 0)
