use Rattle.std.proofs.Common.{◌≡◌, ℕ, ◌+◌, ◌-◌, ◌/◌, ◌%◌, ◌≤◌, min, false, ℤ, pos, negsuc, ◌∙◌, sym, arith, w64, to_z, of_z}
use lib.IntN.{nat_abs}
use lib.Signed.{le_z}
use Rattle.std.proofs.lemmas.Bool.{false≢true}
use Rattle.std.proofs.lemmas.Grind.{common_steps, div_ceil_times}
use Rattle.std.proofs.lemmas.Int.{ints}
use Rattle.std.specs.Int.{div_ceil}
use Rattle.model.specs.Test.{periods}
use Rattle.admission.proofs.total.periods.Goals as goal

ceil : (n p : ℕ) → 1 ≤ p → n / p + min 1 (n % p) ≡ (n + (p - 1)) / p
ceil n p h = let b = div_ceil_times n p h in grind (arith, common_steps)

-- A division that is rounded up is the definition's.
rounded : (z : ℤ) (p : ℕ) → 1 ≤ p → le_z z (pos 0) ≡ false → div_ceil (nat_abs z) p ≡ periods z p
rounded (pos n) p h above = ceil n p h
rounded (negsuc n) p h above = absurd (false≢true (sym above))

pub returns : goal.returns
returns c =
    let same : to_z w64 (of_z w64 c.args.reach) ≡ c.args.reach = omega (arith, ints) in
    let above : le_z c.args.reach (pos 0) ≡ false = rw same at c.if-reach-le0.false in
    record { value = c.div_ceil.ensures ∙ (rw (c.from.ensures, same) (rounded c.args.reach c.args.period c.requires above)) }
