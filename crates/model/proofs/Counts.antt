-- The laws of rounded division by a period, and of the count of another task's jobs.
use Rattle.std.proofs.Common.{◌≡◌, ℕ, zero, suc, ◌+◌, ◌-◌, ◌*◌, ◌/◌, ◌≤◌, ℤ, pos, negsuc, ◌≤ℤ◌, refl, le_refl, suc-mul, le-div_iff_mul-le, div-mul-le_self, arith}
use native.Mathlib.Nat.{div-zero, div-eq_of_lt}
use Rattle.std.proofs.lemmas.Int.{ints}
use Rattle.model.specs.CountLaws.{CountLaws}
use Rattle.model.specs.Test.{periods}

div_mono : (m n t : ℕ) → m ≤ n → m / t ≤ n / t
div_mono m n zero h = rw (div-zero m, div-zero n) (le_refl 0)
div_mono m n (suc t) h = (le-div_iff_mul-le (omega arith)).1 (omega (arith, div-mul-le_self m (suc t)))

pub periods_mono : (m n : ℤ) (t : ℕ) → m ≤ℤ n → periods m t ≤ periods n t
periods_mono (pos m) (pos n) t h = div_mono (m + (t - 1)) (n + (t - 1)) t (omega (arith, ints))
periods_mono (pos m) (negsuc n) t h = absurd (omega (arith, ints))
periods_mono (negsuc m) n t h = omega arith

pub periods_none : (n : ℤ) (t : ℕ) → n ≤ℤ pos 0 → 1 ≤ t → periods n t ≡ 0
periods_none (pos n) t h one = div-eq_of_lt (omega (arith, ints))
periods_none (negsuc n) t h one = refl

pub periods_spaced : (n : ℤ) (t c : ℕ) → 1 ≤ t → pos (suc (c * t)) ≤ℤ n → suc c ≤ periods n t
periods_spaced (pos n) t c one h =
    let most : suc (c * t) ≤ n = omega (arith, ints) in
    (le-div_iff_mul-le one).1 (omega (arith, suc-mul c t))
periods_spaced (negsuc n) t c one h = absurd (omega (arith, ints))

pub count_laws : CountLaws
count_laws =
    record {
      none = λ own other bound period offset one h. periods_none _ period h one;
      rises = λ own other lower upper period offset h. periods_mono _ _ period (omega (arith, ints));
      falls = λ own other bound period sooner later h. periods_mono _ _ period (omega (arith, ints));
      spaced = λ own other bound period offset c one h. periods_spaced _ period c one h;
    }
