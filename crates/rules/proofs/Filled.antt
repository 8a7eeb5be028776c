-- Points that are filled in one by one, in the order of the tasks.
use Rattle.std.proofs.Common.{◌≡◌, ℕ, ◌+◌, ◌<◌, Bool, true, cond, ltb, ◌≢◌, List, length, get_or, set, ℤ, pos, sym, ap, ◌∙◌, subst, ⊎_elim, arith}
use Rattle.std.proofs.lemmas.List.{get_or-set_same, get_or-set_other}
use Rattle.std.proofs.lemmas.Bool.{cases_eq}
use Rattle.std.proofs.lemmas.Bool.Decides.{nat_tests}
use Rattle.model.specs.Figures.{most_tasks}
use Rattle.rules.specs.Points.{point_of}
use Rattle.rules.specs.declared.points.Points.{Points}

-- The first n numbers have their points, and all others 0.
abbrev pub Filled : Points → ℕ → (ℕ → ℤ) → Type 0
Filled p n point = (k : ℕ) → point_of p k ≡ cond (ltb k n) (point k) (pos 0)

pub filled_more : (p q : Points) (n : ℕ) (point : ℕ → ℤ) (x : ℤ) → q.at ≡ set p.at n x → n < most_tasks → x ≡ point n
    → Filled p n point → Filled q (n + 1) point
filled_more p q n point x put h e all k =
    let inside : n < length p.at = omega (arith, p.room) in
    let here : get_or (set p.at n x) n (pos 0) ≡ cond (ltb n (n + 1)) (point n) (pos 0) =
    let reached : ltb n (n + 1) ≡ true = grind (arith, nat_tests) in
    get_or-set_same p.at n x (pos 0) inside ∙ (e ∙ simp reached) in
    ap (λ (xs : List ℤ). get_or xs k (pos 0)) put ∙ ⊎_elim
    (λ (same : k ≡ n). subst (λ (j : ℕ). get_or (set p.at n x) j (pos 0) ≡ cond (ltb j (n + 1)) (point j) (pos 0)) (sym same) here)
    (λ (other : k ≢ n).
    let unmoved : ltb k n ≡ ltb k (n + 1) = grind (arith, nat_tests) in
    get_or-set_other p.at n k x (pos 0) other ∙ (all k ∙ ap (λ (b : Bool). cond b (point k) (pos 0)) unmoved))
    (cases_eq k n)
