-- No task gets more than its share of a stretch of time.
use Rattle.std.proofs.Common.{◌≡◌, ℕ, ◌+◌, ◌-◌, ◌*◌, ◌<◌, ◌≤◌, Bool, true, ltb, List, take, pos, le_trans, mul-le-mul_right, mul_comm, arith}
use Rattle.std.proofs.ByRecursion.{All-weaker}
use Rattle.std.proofs.lemmas.Int.{ints}
use Rattle.std.proofs.lemmas.Bool.{and_parts, and_from, ltb-true, lt-ltb}
use Rattle.std.specs.List.{AllByRecursion}
use Rattle.model.specs.Reading.{Observed}
use Rattle.model.specs.Test.{periods}
use Rattle.model.proofs.Counts.{periods_spaced}
use Rattle.model.proofs.Spacing.{Gaps, many, many_most}
use Rattle.model.proofs.Supply.{History, Supply, tally, recent, releases, supplied_wider, supplied_most}

module _ (bound now i period most : ℕ) (h : History) (js : List Observed) (supply : Supply bound now h i js)
    (spaced : Gaps period (releases js)) (given : AllByRecursion (λ j. j.given ≤ most) js) (past : AllByRecursion (λ j. j.release < now) js)
    (one : 1 ≤ period) (w : ℕ) (some : 1 ≤ w) where
  -- The releases of jobs that were given one of the last w ticks.
  abbrev near : ℕ → Bool
  near x = recent bound now w (λ x. ltb x now) x

  few : many near (releases js) ≤ periods (pos ((w + bound) - 1)) period
  few =
      many_most period near (releases js) _ spaced
      (λ first last c one' two far.
      let young : now < (first + bound) + w = ltb-true _ _ (and_parts (ltb first now) _ one').1 in
      let gone : last < now = ltb-true _ _ (and_parts (ltb last now) _ two).0 in
      periods_spaced (pos ((w + bound) - 1)) period c one (omega (arith, ints)))

  all_near : (j : Observed) → j.release < now → recent bound now w (λ _. true) j.release ≡ true → near j.release ≡ true
  all_near j gone young = and_from _ _ (lt-ltb _ _ gone) young

  pub window_most : tally i (λ _. true) (take w h) ≤ most * periods (pos ((w + bound) - 1)) period
  window_most =
      rw (mul_comm most) (le_trans (supply (λ _. true) w)
      (le_trans (supplied_wider _ near js (All-weaker _ _ all_near js past))
      (le_trans (supplied_most near most js given) (mul-le-mul_right most few))))
