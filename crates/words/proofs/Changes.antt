-- The lowest set bit, and a word with one bit more or less.
use Rattle.std.proofs.Common.{◌≡◌, ℕ, zero, suc, ◌-◌, ◌*◌, ◌/◌, ◌%◌, ◌^◌, ◌<◌, ◌≤◌, Bool, true, false, not, ◌&&◌, ◌||◌, eqb, sym, refl, ap, ◌∙◌, ap₂, ⊎_elim, arith}
use native.Mathlib.Nat.{pow-succ'}
use lib.Bits.{bit_or, or_step}
use lib.Count.{count_trailing_zeros, under}
use lib.Dec.{eqb-zero-suc, eqb-suc-zero, eqb-suc-suc}
use Rattle.std.proofs.lemmas.Bool.{both_ways, cases_lt}
use Rattle.std.proofs.lemmas.Bool.Decides.{nat_tests}
use Rattle.std.proofs.lemmas.Nat.{one_shl}
use Rattle.words.specs.Bits.{has}
use Rattle.words.proofs.Digits.{has_first, has_suc, has_zero, has_small}

-- Bit k of w is its lowest set bit, below m.
abbrev LowestIn : ℕ → ℕ → ℕ → Type 0
LowestIn m w k = (k < m) × (has w k ≡ true) × ((j : ℕ) → j < k → has w j ≡ false)

lowest_step : (m w d t : ℕ) → w % 2 ≡ d → (d ≡ 0 → LowestIn m (w / 2) t) → LowestIn (suc m) w (under d t)
lowest_step m w zero t e rest =
    let r = rest refl in
    let first : has w 0 ≡ false = has_first w ∙ ap (λ (x : ℕ). eqb x 1) e in
    (omega arith, has_suc w t ∙ r.1, below r first)
  where
    below : LowestIn m (w / 2) t → has w 0 ≡ false → (j : ℕ) → j < suc t → has w j ≡ false
    below r first zero h = first
    below r first (suc j) h = has_suc w j ∙ r.2 j (omega arith)
lowest_step m w (suc d) t e rest =
    let one : w % 2 ≡ 1 = omega arith in
    (omega arith, has_first w ∙ ap (λ (x : ℕ). eqb x 1) one, λ j h. absurd (omega arith))

-- The number of trailing zeros is the lowest set bit.
pub trailing_lowest : (m w : ℕ) → 0 < w → w < 2 ^ m → LowestIn m w (count_trailing_zeros m w)
unfolding count_trailing_zeros
trailing_lowest zero w p h = absurd (omega arith)
trailing_lowest (suc m) w p h =
    let double = pow-succ' 2 m in
    lowest_step m w (w % 2) (count_trailing_zeros m (w / 2)) refl (λ e. trailing_lowest m (w / 2) (omega arith) (omega arith))

-- Only a bit below 32 of a word of 32 bits is set.
pub has_inside : (w k : ℕ) → w < 2 ^ 32 → has w k ≡ true → k < 32
has_inside w k f h = ⊎_elim (λ (l : k < 32). l) (λ (l : 32 ≤ k). absurd (both_ways (has w k) (has_small w k f l) h)) (cases_lt k 32)

-- A set bit counts at least its power.
pub has_le : (k w : ℕ) → has w k ≡ true → 2 ^ k ≤ w
has_le zero w h =
    let last : eqb (w % 2) 1 ≡ true = sym (has_first w) ∙ h in
    grind (arith, nat_tests)
has_le (suc k) w h =
    let rest : 2 ^ k ≤ w / 2 = has_le k (w / 2) (sym (has_suc w k) ∙ h) in
    let double = pow-succ' 2 k in
    omega arith

and_true : (b : Bool) → b ≡ (b && true)
and_true true = refl
and_true false = refl

-- A set bit taken off leaves the other bits.
pub has_cleared : (k w : ℕ) → has w k ≡ true → (j : ℕ) → has (w - 2 ^ k) j ≡ (has w j && not (eqb j k))
has_cleared zero w h zero =
    let last : eqb (w % 2) 1 ≡ true = sym (has_first w) ∙ h in
    let gone : eqb ((w - 1) % 2) 1 ≡ false = grind (arith, nat_tests) in
    has_first (w - 1) ∙ gone ∙ sym (ap (λ b. b && false) h)
has_cleared zero w h (suc j) =
    let last : eqb (w % 2) 1 ≡ true = sym (has_first w) ∙ h in
    let rest : (w - 1) / 2 ≡ w / 2 = grind (arith, nat_tests) in
    has_suc (w - 1) j ∙ ap (λ (x : ℕ). has x j) rest ∙ sym (has_suc w j) ∙ and_true (has w (suc j))
    ∙ sym (ap (λ b. has w (suc j) && not b) (eqb-suc-zero j))
has_cleared (suc k) w h zero =
    let bound = has_le (suc k) w h in
    let double = pow-succ' 2 k in
    let same : (w - 2 ^ suc k) % 2 ≡ w % 2 = omega arith in
    has_first (w - 2 ^ suc k) ∙ ap (λ (x : ℕ). eqb x 1) same ∙ sym (has_first w) ∙ and_true (has w 0)
    ∙ sym (ap (λ b. has w 0 && not b) (eqb-zero-suc k))
has_cleared (suc k) w h (suc j) =
    let bound = has_le (suc k) w h in
    let double = pow-succ' 2 k in
    let rest : (w - 2 ^ suc k) / 2 ≡ w / 2 - 2 ^ k = omega arith in
    has_suc (w - 2 ^ suc k) j ∙ ap (λ (x : ℕ). has x j) rest ∙ has_cleared k (w / 2) (sym (has_suc w k) ∙ h) j
    ∙ sym (ap₂ (λ a b. a && not b) (has_suc w j) (eqb-suc-suc j k))

-- A set bit taken off a word of 32 bits leaves the other bits.
module _ (w k : ℕ) (fits : w < 2 ^ 32) (h : has w k ≡ true) where
  shifted : 1 * 2 ^ k % 2 ^ 32 ≡ 2 ^ k
  shifted = one_shl k 32 (has_inside w k fits h)

  pub taken_off : (j : ℕ) → has (w - 1 * 2 ^ k % 2 ^ 32) j ≡ (has w j && not (eqb j k))
  taken_off j = simp shifted (has_cleared k w h j)

-- A power of two has one bit.
has_power : (k j : ℕ) → has (2 ^ k) j ≡ eqb j k
has_power zero zero = refl
has_power zero (suc j) = has_suc 1 j ∙ has_zero j ∙ sym (eqb-suc-zero j)
has_power (suc k) zero =
    let double = pow-succ' 2 k in
    let even : (2 ^ suc k) % 2 ≡ 0 = omega arith in
    has_first (2 ^ suc k) ∙ ap (λ (x : ℕ). eqb x 1) even ∙ sym (eqb-zero-suc k)
has_power (suc k) (suc j) =
    let double = pow-succ' 2 k in
    let rest : 2 ^ suc k / 2 ≡ 2 ^ k = omega arith in
    has_suc (2 ^ suc k) j ∙ ap (λ (x : ℕ). has x j) rest ∙ has_power k j ∙ sym (eqb-suc-suc j k)

pub has_or : (j a b : ℕ) → has (bit_or a b) j ≡ (has a j || has b j)
has_or zero a b =
    let step = or_step a b in
    let last : eqb (bit_or a b % 2) 1 ≡ (eqb (a % 2) 1 || eqb (b % 2) 1) = grind (arith, nat_tests) in
    has_first (bit_or a b) ∙ last ∙ sym (ap₂ (λ x y. x || y) (has_first a) (has_first b))
has_or (suc j) a b =
    let step = or_step a b in
    let rest : bit_or a b / 2 ≡ bit_or (a / 2) (b / 2) = omega arith in
    has_suc (bit_or a b) j ∙ ap (λ (x : ℕ). has x j) rest ∙ has_or j (a / 2) (b / 2)
    ∙ sym (ap₂ (λ x y. x || y) (has_suc a j) (has_suc b j))

-- A power of two put in leaves the other bits.
pub has_marked : (k w j : ℕ) → has (bit_or w (2 ^ k)) j ≡ (has w j || eqb j k)
has_marked k w j = has_or j w (2 ^ k) ∙ ap (λ b. has w j || b) (has_power k j)

-- A bit put into a word of 32 bits leaves the other bits.
pub put_in : (w k : ℕ) → k < 32 → (j : ℕ) → has (bit_or w (1 * 2 ^ k % 2 ^ 32)) j ≡ (has w j || eqb j k)
put_in w k h j = simp (one_shl k 32 h) (has_marked k w j)
