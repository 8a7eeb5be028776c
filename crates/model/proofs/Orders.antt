-- An order by points is lawful if its tie is; so the three rules are, and every layer over a lawful order.
use Rattle.std.proofs.Common.{◌≡◌, ℕ, Bool, true, false, cond, not, ℤ, pos, ◌+ℤ◌, ◌<ℤ◌, sym, ap, ◌∙◌, subst, arith}
use lib.Signed.{lt_z}
use Rattle.std.proofs.lemmas.Int.{ints, clamps}
use Rattle.std.proofs.lemmas.Bool.Decides.{nat_tests}
use Rattle.model.specs.Orders.{InRange, Lawful, priority}
use Rattle.model.specs.Rules.{by_points, capped, lower_number}
use Rattle.model.specs.declared.job.JobId.{JobId}

-- What a tie needs: it decides between different jobs of equal priority points, and is transitive.
pub record Tie (point : ℕ → ℤ) (tie : JobId → JobId → Bool) : Type 0 where
  pub not_itself : (a : JobId) → tie a a ≡ false
  pub exactly_one : (a b : JobId) → priority point a ≡ priority point b → (a ≡ b → ⊥) → tie a b ≡ not (tie b a)
  pub transitive : (a b c : JobId) → tie a b ≡ true → tie b c ≡ true → tie a c ≡ true

module _ (x y z : ℤ) where
  pub itself : (t : Bool) → t ≡ false → cond (lt_z x x) true (cond (lt_z x x) false t) ≡ false
  itself t h = grind (arith, ints, nat_tests)

  pub one_way : (t u : Bool) → (x ≡ y → t ≡ not u) → cond (lt_z x y) true (cond (lt_z y x) false t) ≡ not (cond (lt_z y x) true (cond
      (lt_z x y) false u))
  one_way t u h = grind (arith, ints, nat_tests)

  pub chained : (t u v : Bool) → (t ≡ true → u ≡ true → v ≡ true) → cond (lt_z x y) true (cond (lt_z y x) false t) ≡ true
      → cond (lt_z y z) true (cond (lt_z z y) false u) ≡ true → cond (lt_z x z) true (cond (lt_z z x) false v) ≡ true
  chained t u v h p q = grind (arith, ints, nat_tests)

  pub under : (t : Bool) → x <ℤ y → cond (lt_z x y) true (cond (lt_z y x) false t) ≡ true
  under t h = grind (arith, ints, nat_tests)

pub lawful : (point : ℕ → ℤ) (tie : JobId → JobId → Bool) → ((i : ℕ) → InRange (point i)) → Tie point tie → Lawful point
    (by_points point tie)
lawful point tie range t = record {
  in_range = range;
  not_itself = λ a. itself (priority point a) (priority point a) (priority point a) (tie a a) (t.not_itself a);
  exactly_one = λ a b apart. one_way (priority point a) (priority point b) (priority point b) (tie a b) (tie b a)
      (λ e. t.exactly_one a b e apart);
  transitive = λ a b c. chained (priority point a) (priority point b) (priority point c) (tie a b) (tie b c) (tie a c)
      (t.transitive a b c);
  by_priority = λ a b. under (priority point a) (priority point b) (priority point b) (tie a b);
}

-- Two jobs of one task with equal priority points are one job.
same_job : (point : ℕ → ℤ) (a b : JobId) → priority point a ≡ priority point b → a.task ≡ b.task → a ≡ b
same_job point a b p e =
    let q : pos a.release +ℤ point b.task ≡ pos b.release +ℤ point b.task = subst (λ (i : ℕ). pos
    a.release +ℤ point i ≡ pos b.release +ℤ point b.task) e p in
    let f : a.release ≡ b.release = omega (arith, ints) in
    let made : ℕ → ℕ → JobId = λ i r. record { task = i; release = r } in
    ap (λ (i : ℕ). made i a.release) e ∙ ap (made b.task) f

pub lower_ties : (point : ℕ → ℤ) → Tie point lower_number
lower_ties point = record {
  not_itself = λ a. grind (arith, nat_tests);
  exactly_one = λ a b p apart. let other : a.task ≡ b.task → ⊥ = λ e. apart (same_job point a b p e) in grind (arith, nat_tests);
  transitive = λ a b c p q. grind (arith, nat_tests);
}

-- A tie turned around is a tie.
pub turned : (point : ℕ → ℤ) (tie : JobId → JobId → Bool) → Tie point tie → Tie point (λ a b. tie b a)
turned point tie t = record {
  not_itself = t.not_itself;
  exactly_one = λ a b p apart. t.exactly_one b a (sym p) (λ e. apart (sym e));
  transitive = λ a b c p q. t.transitive c b a q p;
}

-- A number that is stopped at the ends of the range is in the range.
pub capped_in_range : (z : ℤ) → InRange (capped z)
capped_in_range z = record { low = omega (arith, ints, clamps); high = omega (arith, ints, clamps) }

-- Every order by points in the range, with ties to the lower number.
pub bottom_lawful : (point : ℕ → ℤ) → ((i : ℕ) → InRange (point i)) → Lawful point (by_points point lower_number)
bottom_lawful point range = lawful point lower_number range (lower_ties point)

-- A layer over a lawful order: other points in the range, and ties to the order below.
pub layer_lawful : (point below : ℕ → ℤ) (before : JobId → JobId → Bool) → ((i : ℕ) → InRange (point i)) → Lawful below before
    → Lawful point (by_points point before)
layer_lawful point below before range l =
    lawful point before range
    (record { not_itself = l.not_itself; exactly_one = λ a b p apart. l.exactly_one a b apart; transitive = l.transitive })
