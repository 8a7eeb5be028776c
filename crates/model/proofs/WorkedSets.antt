-- The answers of the worked sets: a computed test on the rounds that lead to them, and what the test shows.
use Rattle.std.proofs.Common.{◌≡◌, ℕ, zero, suc, ◌<◌, ◌≤◌, Bool, true, false, not, ◌&&◌, eqb, ltb, leb, List, [], ◌∷◌, length, get_or, ℤ, Some, None, Option, sym, refl, subst, ⊎_elim, arith}
use Rattle.std.proofs.lemmas.Bool.{and_parts, and_from, both_ways, cases_eq, eqb-true, le-leb, leb-true, ltb-true, not-true, false≢true}
use Rattle.model.specs.Figures.{no_task}
use Rattle.model.specs.Test.{total, FirstOffset}
use Rattle.model.specs.Verdict.{Refuses, first_points}
use Rattle.model.specs.Worked.{Set, sets, two, Answered, AllAnswered}
use Rattle.model.specs.declared.figures.Figures.{Figures}
use Rattle.model.proofs.Rounds.{Under, Rise, under_rise, smallest_unmoved}

-- A test holds of every number below n.
every : ℕ → (ℕ → Bool) → Bool
every zero test = true
every (suc n) test = every n test && test n

every_at : (n : ℕ) (test : ℕ → Bool) → every n test ≡ true → (k : ℕ) → k < n → test k ≡ true
unfolding every
every_at zero test t k h = absurd (omega arith)
every_at (suc n) test t k h =
    let (below, here) = and_parts (every n test) (test n) t in
    ⊎_elim (λ (e : k ≡ n). subst (λ i. test i ≡ true) (sym e) here) (λ ne. every_at n test below k (omega arith)) (cases_eq k n)

every_from : (n : ℕ) (test : ℕ → Bool) → ((k : ℕ) → k < n → test k ≡ true) → every n test ≡ true
unfolding every
every_from zero test all = refl
every_from (suc n) test all = and_from (every n test) (test n) (every_from n test (λ k h. all k (omega arith))) (all n (omega arith))

module _ (tasks : List Figures) (points : List ℤ) where
  deadline : ℕ → ℕ
  deadline k = (get_or tasks k no_task).deadline

  rises : List ℕ → List ℕ → Bool
  rises figures next = every (length tasks) (λ k. every (deadline k) (λ q. leb (get_or next k 0) (total tasks points figures k q)))

  rise : (figures next : List ℕ) → rises figures next ≡ true → Rise tasks points figures next
  unfolding rises deadline
  rise figures next t k h q inside = leb-true _ _ (every_at _ _ (every_at _ _ t k h) q inside)

  -- From the figures through the rounds to a last test.
  leads : List ℕ → List (List ℕ) → (List ℕ → Bool) → Bool
  leads figures [] test = test figures
  leads figures (next ∷ rest) test = rises figures next && leads next rest test

  -- What the rounds lead to is at or below every warrant, and passes the last test.
  record Reached (test : List ℕ → Bool) : Type 0 where
    figures : List ℕ
    under : Under tasks points figures
    passes : test figures ≡ true

  reached : (figures : List ℕ) (rounds : List (List ℕ)) (test : List ℕ → Bool)
      → Under tasks points figures → leads figures rounds test ≡ true → Reached test
  unfolding leads
  reached figures [] test under t = record { figures = figures; under = under; passes = t }
  reached figures (next ∷ rest) test under t =
      let (r, l) = and_parts (rises figures next) (leads next rest test) t in
      reached next rest test (under_rise tasks points figures next under (rise figures next r)) l

  -- C is at least 1, the bound keeps the deadline, and the offset is the smallest that attains it.
  settled : List ℕ → ℕ → ℕ → Bool
  settled bounds q k =
      leb 1 (get_or tasks k no_task).execution && (leb (get_or bounds k 0) (deadline k) && (ltb q (deadline k) &&
      (eqb (total tasks points bounds k q) (get_or bounds k 0) && every q (λ j. ltb (get_or bounds k 0) (total tasks points bounds k j)))))

  record Settled (bounds : List ℕ) (q k : ℕ) : Type 0 where
    runs : 1 ≤ (get_or tasks k no_task).execution
    in_time : get_or bounds k 0 ≤ (get_or tasks k no_task).deadline
    first : FirstOffset tasks points bounds k q

  settles : (bounds : List ℕ) (q k : ℕ) → settled bounds q k ≡ true → Settled bounds q k
  unfolding settled deadline
  settles bounds q k t =
      let (runs, t₁) = and_parts (leb 1 (get_or tasks k no_task).execution) _ t in
      let (in_time, t₂) = and_parts (leb (get_or bounds k 0) (deadline k)) _ t₁ in
      let (inside, t₃) = and_parts (ltb q (deadline k)) _ t₂ in
      let (attains, earlier) = and_parts (eqb (total tasks points bounds k q) (get_or bounds k 0)) _ t₃ in
      record {
        runs = leb-true _ _ runs;
        in_time = leb-true _ _ in_time;
        first = record {
          inside = ltb-true _ _ inside;
          attains = eqb-true _ _ attains;
          first = λ j below e. let over = ltb-true _ _ (every_at _ _ earlier j below) in omega arith;
        };
      }

  in_time : List ℕ → Bool
  in_time figures = every (length tasks) (λ k. leb (get_or figures k 0) (deadline k))

  refused : (figures : List ℕ) → Under tasks points figures → not (in_time figures) ≡ true → Refuses tasks points
  unfolding in_time deadline
  refused figures under t bounds w =
      let due : in_time figures ≡ true =
      every_from (length tasks) _ (λ k h. le-leb (get_or figures k 0) (deadline k) (omega (arith, under bounds w k h, w.in_time k h))) in
      both_ways (in_time figures) (not-true (in_time figures) t) due

  -- The answer is right, as the figures of the rounds that lead to it show.
  right : Option (List ℕ × List ℕ) → List (List ℕ) → Bool
  right (Some (bounds, offsets)) rounds =
      eqb (length bounds) (length tasks) && (eqb (length offsets) (length tasks) &&
      (every (length tasks) (λ k. settled bounds (get_or offsets k 0) k) && leads [] rounds (λ figures. rises figures bounds)))
  right None rounds = leads [] rounds (λ figures. not (in_time figures))

  nothing_under : Under tasks points []
  nothing_under bounds w k h = omega arith

  answered : (answer : Option (List ℕ × List ℕ)) (rounds : List (List ℕ)) → right answer rounds ≡ true → Answered tasks points answer
  unfolding right
  answered (Some (bounds, offsets)) rounds t =
      let (one_bound, t₁) = and_parts (eqb (length bounds) (length tasks)) _ t in
      let (one_offset, t₂) = and_parts (eqb (length offsets) (length tasks)) _ t₁ in
      let (all, climb) = and_parts (every (length tasks) (λ k. settled bounds (get_or offsets k 0) k)) _ t₂ in
      let at = λ (k : ℕ) (h : k < length tasks). settles bounds (get_or offsets k 0) k (every_at _ _ all k h) in
      let end = reached [] rounds (λ figures. rises figures bounds) nothing_under climb in
      let under = under_rise tasks points end.figures bounds end.under (rise end.figures bounds end.passes) in
      record {
        smallest = smallest_unmoved tasks points bounds (λ k. get_or offsets k 0) (λ k h. (at k h).runs) (eqb-true _ _ one_bound) under
            (λ k h. (at k h).first) (λ k h. (at k h).in_time);
        one_each = eqb-true _ _ one_offset;
        first = λ k h. (at k h).first;
      }
  answered None rounds t =
      let end = reached [] rounds (λ figures. not (in_time figures)) nothing_under t in
      refused end.figures end.under end.passes

all_right : List Set → List (List (List ℕ)) → Bool
all_right [] ways = true
all_right (s ∷ ss) [] = false
all_right (s ∷ ss) (w ∷ ws) = right s.tasks (first_points s.point (length s.tasks)) s.answer w && all_right ss ws

all_answered : (ss : List Set) (ways : List (List (List ℕ))) → all_right ss ways ≡ true → AllAnswered ss
unfolding all_right
all_answered [] ways t = tt
all_answered (s ∷ ss) [] t = absurd (false≢true t)
all_answered (s ∷ ss) (w ∷ ws) t =
    let points = first_points s.point (length s.tasks) in
    let (one, rest) = and_parts (right s.tasks points s.answer w) (all_right ss ws) t in
    (answered s.tasks points s.answer w one, all_answered ss ws rest)

-- For each set the figures of the rounds: up to the one before the bounds, or to one with a figure beyond its deadline.
ways : List (List (List ℕ))
ways =
    (two 3 5 ∷ (two 4 5 ∷ [])) ∷ ((two 3 4 ∷ []) ∷ ([] ∷ ((two 3 5 ∷ []) ∷ ((two 4 6 ∷ []) ∷
    ((two 3 18 ∷ (two 7 19 ∷ [])) ∷ ([] ∷ (((5 ∷ []) ∷ []) ∷ [])))))))

pub worked : AllAnswered sets
unfolding every deadline rises leads settled in_time right all_right ways
worked = all_answered sets ways refl
