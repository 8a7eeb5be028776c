-- There is a right verdict: rounds of figures that rise from 0 find the answer.
use Rattle.std.proofs.Common.{◌≡◌, ℕ, zero, suc, ◌+◌, ◌-◌, ◌<◌, ◌≤◌, ◌⊎◌, List, [], map, length, get_or, ℤ, Some, None, Option, refl, inl, inr, ⊎_elim, le_refl, arith}
use Rattle.std.proofs.lemmas.List.FromFn.{length-map-range_with_len, get_or-map-range_with_len}
use Rattle.std.proofs.lemmas.Bool.{cases_eq, cases_lt}
use Rattle.std.specs.List.{range_with_len}
use Rattle.model.specs.Figures.{AllFit, no_task}
use Rattle.model.specs.Test.{total}
use Rattle.model.specs.Verdict.{SmallestTotal}
use Rattle.model.specs.Worked.{Answered}
use Rattle.model.specs.declared.figures.Figures.{Figures}
use Rattle.model.proofs.Processor.{one_more}
use Rattle.model.proofs.Rounds.{refuses_late}
use Rattle.admission.proofs.Iteration.{distance, Rising, Found, rising_round, distance_falls, admits_unmoved}
use Rattle.admission.specs.Rows.{Same}
use Rattle.admission.specs.Verdicts.{Right, Verdict}

-- What is decided at each number is decided of all below n.
all_or_some : (P Q : ℕ → Type 0) → ((k : ℕ) → P k ⊎ Q k) → (n : ℕ) → ((k : ℕ) → k < n → P k) ⊎ ((k : ℕ) × (k < n) × Q k)
all_or_some P Q either zero = inl (λ k h. absurd (omega arith))
all_or_some P Q either (suc n) =
    ⊎_elim
    (λ (all : (k : ℕ) → k < n → P k).
    ⊎_elim (λ (here : P n). inl (λ k h. one_more n k all here h)) (λ (here : Q n). inr (n, omega arith, here)) (either n))
    (λ ((k, h, other) : (k : ℕ) × (k < n) × Q k). inr (k, omega arith, other)) (all_or_some P Q either n)

-- The smallest of the first n values of f is at a place, and first there.
record Least (f : ℕ → ℕ) (n at : ℕ) : Type 0 where
  inside : at < n
  smallest : (m : ℕ) → m < n → f at ≤ f m
  first : (m : ℕ) → m < at → f at < f m

least : (f : ℕ → ℕ) (n : ℕ) → (at : ℕ) × Least f (suc n) at
least f zero = (
  0,
  record {
    inside = omega arith;
    smallest = λ m h. one_more {P = λ i. f 0 ≤ f i} 0 m (λ i l. absurd (omega arith)) (le_refl (f 0)) h;
    first = λ m h. absurd (omega arith);
  },
)
least f (suc n) =
    let (at, l) = least f n in
    ⊎_elim
    (λ (less : f (suc n) < f at). (
      suc n,
      record {
        inside = omega arith;
        smallest = λ m h. one_more {P = λ i. f (suc n) ≤ f i} (suc n) m (λ i b. omega (arith, l.smallest i b)) (le_refl (f (suc n))) h;
        first = λ m h. omega (arith, l.smallest m h);
      },
    ))
    (λ (more : f at ≤ f (suc n)). (
      at,
      record {
        inside = omega arith;
        smallest = λ m h. one_more {P = λ i. f at ≤ f i} (suc n) m l.smallest more h;
        first = l.first;
      },
    )) (cases_lt (f (suc n)) (f at))

module _ (tasks : List Figures) (points : List ℤ) where
  -- A figure for each task.
  abbrev each : (ℕ → ℕ) → List ℕ
  each f = map f (range_with_len 0 (length tasks))

  room : (f : ℕ → ℕ) → length (each f) ≡ length tasks
  room f = length-map-range_with_len f 0 (length tasks)

  -- A round: for each task its smallest total under the figures, and the first offset of that.
  module _ (figures : List ℕ) where
    at : (k : ℕ) → (q : ℕ) × Least (total tasks points figures k) (suc ((get_or tasks k no_task).deadline - 1)) q
    at k = least (total tasks points figures k) ((get_or tasks k no_task).deadline - 1)

    abbrev offsets : List ℕ
    offsets = each (λ k. (at k).0)

    abbrev bounds : List ℕ
    bounds = each (λ k. total tasks points figures k (at k).0)

    smallest_totals : AllFit tasks → (k : ℕ) → k < length tasks → SmallestTotal tasks points figures k (get_or bounds k 0) (get_or offsets k 0)
    smallest_totals fit k h =
        let (q, l) = at k in
        let positive : 1 ≤ (get_or tasks k no_task).deadline = (fit k h).1 in
        let value : (f : ℕ → ℕ) → get_or (each f) k 0 ≡ f k = λ f. get_or-map-range_with_len f 0 (length tasks) k k 0 h (omega arith) in
        rw (value (λ i. total tasks points figures i (at i).0), value (λ i. (at i).0)) record {
          inside = omega (arith, l.inside);
          attains = refl;
          smallest = λ m inside. l.smallest m (omega arith);
          first = l.first;
        }

  -- A right answer from figures on their way up, with more rounds left than the figures can move.
  answer : (fuel : ℕ) (figures : List ℕ) → (a : Option (List ℕ × List ℕ))
      × (AllFit tasks → Rising tasks points figures → distance tasks figures < fuel → Answered tasks points a)
  answer zero figures = (None, λ fit c h. absurd (omega arith))
  answer (suc fuel) figures =
      let n = length tasks in
      let next = bounds figures in
      let firsts = offsets figures in
      let late : ℕ → ℕ = λ k. (get_or tasks k no_task).deadline + 1 in
      ⊎_elim
      (λ (in_time : (k : ℕ) → k < n → get_or next k 0 < late k).
      let round : AllFit tasks → Found tasks points figures next firsts n =
      λ fit. record { smallest = smallest_totals figures fit; in_time = λ k h. omega (arith, in_time k h) } in
      ⊎_elim
      (λ (same : Same figures next n). (
        Some (next, firsts),
        λ fit c h. admits_unmoved tasks points figures next firsts c (round fit) fit (room _) (room _) same,
      ))
      (λ ((k, h, moved) : (k : ℕ) × (k < n) × (get_or next k 0 ≡ get_or figures k 0 → ⊥)).
      let (a, right) = answer fuel next in (
        a,
        λ fit c enough.
            let falls = distance_falls tasks points figures next firsts c (round fit) (λ same. moved (same k h)) in
            right fit (rising_round tasks points figures next firsts c (round fit)) (omega arith),
      ))
      (all_or_some _ _ (λ k. cases_eq (get_or next k 0) (get_or figures k 0)) n))
      (λ ((k, h, passed) : (k : ℕ) × (k < n) × (late k ≤ get_or next k 0)). (
        None,
        λ fit c enough.
            refuses_late tasks points figures k c.under h
            (λ q inside. omega (arith, (smallest_totals figures fit k h).smallest q inside)),
      ))
      (all_or_some _ _ (λ k. cases_lt (get_or next k 0) (late k)) n)

  -- Figures that are 0 are on their way up.
  rising_zero : Rising tasks points []
  rising_zero = record { under = λ others w k h. omega arith; rise = λ k h q inside. omega arith; cut = λ k h. omega arith }

-- As many rounds as figures of 0 can move, and one more, end in a right answer.
pub a_verdict : (v : Verdict) × Right v
a_verdict = (
  λ tasks points. (answer tasks points (suc (distance tasks [])) []).0,
  λ tasks points fit one_each. (answer tasks points (suc (distance tasks [])) []).1 fit.1 (rising_zero tasks points) (le_refl _),
)
