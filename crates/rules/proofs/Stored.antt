-- What holds of every stored point.
use Rattle.std.proofs.Common.{ℕ, zero, suc, get_or, replicate, ℤ, pos}

pub each_of_zeros : (P : ℤ → Type 0) → P (pos 0) → (n k : ℕ) → P (get_or (replicate n (pos 0)) k (pos 0))
each_of_zeros P h zero k = h
each_of_zeros P h (suc n) zero = h
each_of_zeros P h (suc n) (suc k) = each_of_zeros P h n k
