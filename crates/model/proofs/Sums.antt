-- Sums over the first numbers, compared place by place.
use Rattle.std.proofs.Common.{◌≡◌, ℕ, zero, suc, ◌<◌, ◌≤◌, subst, ⊎_elim, le_refl, arith}
use Rattle.std.proofs.lemmas.Bool.{cases_lt}
use Rattle.model.specs.Sums.{sum_to}

pub sum_to_mono : (n : ℕ) (f g : ℕ → ℕ) → ((i : ℕ) → i < n → f i ≤ g i) → sum_to n f ≤ sum_to n g
sum_to_mono zero f g h = le_refl 0
sum_to_mono (suc n) f g h =
    let below : sum_to n f ≤ sum_to n g = sum_to_mono n f g (λ i l. h i (omega arith)) in
    let here : f n ≤ g n = h n (omega arith) in
    omega arith

pub sum_to_more : (n : ℕ) (f g : ℕ → ℕ) → ((i : ℕ) → i < n → f i ≤ g i) → (m : ℕ) → m < n → f m < g m → sum_to n f < sum_to n g
sum_to_more zero f g h m in' more = absurd (omega arith)
sum_to_more (suc n) f g h m in' more =
    let all : (i : ℕ) → i < n → f i ≤ g i = λ i l. h i (omega arith) in
    ⊎_elim
    (λ (l : m < n). let below = sum_to_more n f g all m l more in let here = h n (omega arith) in omega arith)
    (λ (l : n ≤ m).
    let e : m ≡ n = omega arith in
    let here : f n < g n = subst (λ i. f i < g i) e more in
    let below = sum_to_mono n f g all in
    omega arith)
    (cases_lt m n)
