-- Totals rise with the bounds that they are taken under.
use Rattle.std.proofs.Common.{◌≡◌, ℕ, ◌+◌, ◌-◌, ◌<◌, ◌≤◌, Bool, true, false, cond, eqb, List, length, get_or, ℤ, pos, negsuc, ◌≤ℤ◌, ap, le_refl, mul-le-mul_right, div-le_self, add-one, arith}
use Rattle.std.proofs.lemmas.Int.{ints}
use Rattle.model.proofs.Counts.{count_laws}
use Rattle.model.proofs.Sums.{sum_to_mono}
use Rattle.model.specs.Figures.{no_task}
use Rattle.model.specs.Sums.{sum_to}
use Rattle.model.specs.Test.{periods, share, total}
use Rattle.model.specs.declared.figures.Figures.{Figures}

pub sum_to_suc : (n : ℕ) (f : ℕ → ℕ) → sum_to (n + 1) f ≡ sum_to n f + f n
sum_to_suc n f = ap (λ (m : ℕ). sum_to m f) (add-one n)

pub periods_le : (n : ℤ) (t limit : ℕ) → n ≤ℤ pos limit → periods n t ≤ limit + t
periods_le (pos n) t limit h = let quotient = div-le_self (n + (t - 1)) t in let below : n ≤ limit = omega (arith, ints) in omega arith
periods_le (negsuc n) t limit h = omega arith

unless_mono : (b : Bool) (m n : ℕ) → m ≤ n → cond b 0 m ≤ cond b 0 n
unless_mono true m n h = le_refl 0
unless_mono false m n h = h

module _ (tasks : List Figures) (points : List ℤ) (lower upper : List ℕ) (k q : ℕ) where
  share_mono : (i : ℕ) → get_or lower i 0 ≤ get_or upper i 0 → share tasks points lower k q i ≤ share tasks points upper k q i
  share_mono i h =
      unless_mono (eqb i k) _ _
      (mul-le-mul_right (get_or tasks i no_task).execution
      (count_laws.rises (get_or points k (pos 0)) (get_or points i (pos 0)) _ _ (get_or tasks i no_task).period q h))

  pub total_mono : ((i : ℕ) → i < length tasks → get_or lower i 0 ≤ get_or upper i 0)
      → total tasks points lower k q ≤ total tasks points upper k q
  total_mono h =
      let shares = sum_to_mono (length tasks) (share tasks points lower k q) (share tasks points upper k q) (λ i l. share_mono i (h i l)) in
      omega arith
