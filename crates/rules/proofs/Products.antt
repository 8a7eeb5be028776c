-- Sums that the ends of a type leave as they are.
use Rattle.std.proofs.Common.{◌≡◌, ℕ, suc, ◌≤◌, ℤ, pos, negsuc, neg_ℤ, ◌≤ℤ◌, ap, arith}
use Rattle.std.proofs.lemmas.Int.{ints}
use Rattle.std.specs.Int.{saturate_to_bits}

-- A sum that is far from the ends of its type is not cut.
pub uncut : (z : ℤ) → neg_ℤ (pos 2000000000) ≤ℤ z → z ≤ℤ pos 2000000000 → saturate_to_bits 31 z ≡ z
uncut (pos n) low high =
    let n31 : n ≤ 2000000000 = omega (arith, ints) in
    ap pos (omega arith)
uncut (negsuc n) low high =
    let n31 : n ≤ 2000000000 = omega (arith, ints) in
    ap negsuc (omega arith)
