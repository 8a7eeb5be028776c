-- The bits of a number, and that they tell which number it is.
use Rattle.std.proofs.Common.{◌≡◌, ℕ, zero, suc, ◌+◌, ◌/◌, ◌%◌, ◌^◌, ◌<◌, ◌≤◌, false, eqb, sym, ap, ◌∙◌, lt_of_lt_of_le, div-one, arith, pow_mono}
use native.Mathlib.Nat.{zero-div, div-eq_of_lt, div-div-eq-div-mul, pow-succ'}
use lib.Arith.{half_le}
use Rattle.std.proofs.lemmas.Bool.Decides.{nat_tests}
use Rattle.words.specs.Bits.{has}

-- Bit 0 is the last binary digit.
pub has_first : (w : ℕ) → has w 0 ≡ eqb (w % 2) 1
has_first w = ap (λ (x : ℕ). eqb (x % 2) 1) (div-one w)

-- The bits above bit 0 are those of the half.
pub has_suc : (w k : ℕ) → has w (suc k) ≡ has (w / 2) k
has_suc w k = ap (λ (x : ℕ). eqb (x % 2) 1) (ap (λ (x : ℕ). w / x) (pow-succ' 2 k) ∙ sym (div-div-eq-div-mul w 2 (2 ^ k)))

-- 0 has no bit set.
pub has_zero : (k : ℕ) → has 0 k ≡ false
has_zero k = ap (λ (x : ℕ). eqb (x % 2) 1) (zero-div (2 ^ k))

-- Past its digits a number is 0.
pub shifted_out : (w k : ℕ) → w < 2 ^ 32 → 32 ≤ k → w / 2 ^ k ≡ 0
shifted_out w k h l = div-eq_of_lt (lt_of_lt_of_le h (pow_mono l))

-- A word of 32 bits has no bit 32 or above.
pub has_small : (w k : ℕ) → w < 2 ^ 32 → 32 ≤ k → has w k ≡ false
has_small w k h l = ap (λ (x : ℕ). eqb (x % 2) 1) (shifted_out w k h l)

same_up_to : (f v w : ℕ) → v ≤ f → w ≤ f → ((k : ℕ) → has v k ≡ has w k) → v ≡ w
same_up_to zero v w p q h = omega arith
same_up_to (suc f) v w p q h =
    let rest : v / 2 ≡ w / 2 =
    same_up_to f (v / 2) (w / 2) (half_le p) (half_le q) (λ k. sym (has_suc v k) ∙ h (suc k) ∙ has_suc w k) in
    let last : eqb (v % 2) 1 ≡ eqb (w % 2) 1 = sym (has_first v) ∙ h 0 ∙ has_first w in
    let digit : v % 2 ≡ w % 2 = grind (arith, nat_tests) in
    omega arith

-- Numbers with the same bits are one number.
pub same_bits : (v w : ℕ) → ((k : ℕ) → has v k ≡ has w k) → v ≡ w
same_bits v w h = same_up_to (v + w) v w (omega arith) (omega arith) h

-- A number with no bit set is 0.
pub zero_has : (w : ℕ) → ((k : ℕ) → has w k ≡ false) → w ≡ 0
zero_has w h = same_bits w 0 (λ k. h k ∙ sym (has_zero k))
