-- The rule that a choice makes: two layers over a kind.
use Rattle.std.proofs.Common.{◌≡◌, ℕ, suc, ◌≤◌, Bool, true, List, ℤ, pos, negsuc, ap, ◌∙◌, subst, arith, w32, to_z, of_z}
use Rattle.std.proofs.lemmas.Int.{ints}
use Rattle.std.proofs.lemmas.Bool.Decides.{nat_tests}
use Rattle.model.specs.Rules.{allowed, by_points, lower_number, weighted_point}
use Rattle.model.specs.declared.figures.Figures.{Figures}
use Rattle.model.specs.declared.job.JobId.{JobId}
use Rattle.rules.specs.Choices.{chosen_before, chosen_point, middle_point}
use Rattle.rules.specs.Kinds.{bottom_point}
use Rattle.rules.specs.Points.{point_of}
use Rattle.rules.specs.declared.bottom.Bottom.{Bottom}
use Rattle.rules.specs.declared.choice.Choice.{Choice}
use Rattle.rules.specs.declared.weighted.Weighted.{Weighted}

-- A weight in its range is a number of 32 bits.
pub light : (z : ℤ) → allowed z ≡ true → to_z w32 (of_z w32 z) ≡ z
light (pos n) a =
    let few : n ≤ 16 = grind (arith, ints, nat_tests) in
    omega (arith, ints)
light (negsuc n) a =
    let few : suc n ≤ 16 = grind (arith, ints, nat_tests) in
    omega (arith, ints)

-- What holds under the layers holds under the chosen rule.
pub chosen : (P : List Figures → (ℕ → ℤ) → (JobId → JobId → Bool) → Type 0) (choice : Choice) (tasks' tasks : List Figures)
    (execution suspension : ℤ) (bottom : Bottom) (middle : Weighted Bottom) (rule : Weighted (Weighted Bottom)) → tasks' ≡ tasks
    → execution ≡ choice.execution → suspension ≡ choice.suspension → point_of bottom.points ≡ bottom_point choice.kind tasks'
    → point_of middle.points ≡ weighted_point (λ f. f.execution) tasks' execution (point_of bottom.points)
    → middle.below.now ≡ bottom
    → point_of rule.points ≡ weighted_point (λ f. f.suspension) tasks' suspension (point_of middle.points)
    → rule.below.now ≡ middle
    → P tasks' (point_of rule.points)
    (by_points (point_of rule.points) (by_points (point_of rule.below.now.points)
    (by_points (point_of rule.below.now.below.now.points) lower_number)))
    → P tasks (chosen_point choice tasks) (chosen_before choice tasks)
chosen P choice tasks' tasks execution suspension bottom middle rule same e s low mid over_low top over_mid holds =
    let under_rule : by_points (point_of rule.below.now.points) (by_points (point_of rule.below.now.below.now.points) lower_number)
    ≡ by_points (point_of middle.points) (by_points (point_of bottom.points) lower_number) =
    ap (λ (m : Weighted Bottom). by_points (point_of m.points) (by_points (point_of m.below.now.points) lower_number)) over_mid
    ∙ ap (λ (b : Bottom). by_points (point_of middle.points) (by_points (point_of b.points) lower_number)) over_low in
    let mid_is : point_of middle.points ≡ middle_point choice tasks' =
    mid ∙ (ap (λ (w : ℤ). weighted_point (λ f. f.execution) tasks' w (point_of bottom.points)) e
    ∙ ap (weighted_point (λ f. f.execution) tasks' choice.execution) low) in
    let top_is : point_of rule.points ≡ chosen_point choice tasks' =
    top ∙ (ap (λ (w : ℤ). weighted_point (λ f. f.suspension) tasks' w (point_of middle.points)) s
    ∙ ap (weighted_point (λ f. f.suspension) tasks' choice.suspension) mid_is) in
    subst (λ (ts : List Figures). P ts (chosen_point choice ts) (chosen_before choice ts)) same
    (subst (λ (p : ℕ → ℤ). P tasks' (chosen_point choice tasks')
    (by_points (chosen_point choice tasks') (by_points (middle_point choice tasks') (by_points p lower_number)))) low
    (subst (λ (p : ℕ → ℤ). P tasks' (chosen_point choice tasks')
    (by_points (chosen_point choice tasks') (by_points p (by_points (point_of bottom.points) lower_number)))) mid_is
    (subst (λ (p : ℕ → ℤ). P tasks' p (by_points p (by_points (point_of middle.points) (by_points (point_of bottom.points) lower_number))))
    top_is (subst (λ (o : JobId → JobId → Bool). P tasks' (point_of rule.points) (by_points (point_of rule.points) o)) under_rule holds))))
