-- Figures that rise from below towards the smallest bounds, round by round.
use Rattle.std.proofs.Common.{◌≡◌, ℕ, ◌+◌, ◌<◌, ◌≤◌, List, [], length, get_or, ℤ, sym, ◌∙◌, le_of_eq, le_antisymm, arith}
use Rattle.model.specs.Figures.{no_task}
use Rattle.model.specs.Test.{total, Warrant, Smallest, FirstOffset}
use Rattle.model.specs.Verdict.{Refuses, SmallestTotal, AllLate}
use Rattle.model.specs.declared.figures.Figures.{Figures}
use Rattle.model.proofs.Totals.{total_mono}

module _ (tasks : List Figures) (points : List ℤ) where
  -- The figures are at or below every warrant.
  abbrev pub Under : List ℕ → Type 0
  Under figures = (bounds : List ℕ) → Warrant tasks points bounds → (k : ℕ) → k < length tasks → get_or figures k 0 ≤ get_or bounds k 0

  -- The next figures are at or below every total under the figures.
  abbrev pub Rise : List ℕ → List ℕ → Type 0
  Rise figures next =
      (k : ℕ) → k < length tasks → (q : ℕ) → q < (get_or tasks k no_task).deadline → get_or next k 0 ≤ total tasks points figures k q

  total_same : (figures bounds : List ℕ) (k q : ℕ) → ((i : ℕ) → i < length tasks → get_or bounds i 0 ≡ get_or figures i 0)
      → total tasks points bounds k q ≡ total tasks points figures k q
  total_same figures bounds k q same =
      le_antisymm (total_mono tasks points bounds figures k q (λ i h. le_of_eq (same i h)))
      (total_mono tasks points figures bounds k q (λ i h. le_of_eq (sym (same i h))))

  pub under_rise : (figures next : List ℕ) → Under figures → Rise figures next → Under next
  under_rise figures next under rise bounds w k h =
      let (q, inside, covered) = w.covered k h in
      let low = rise k h q inside in
      let up = total_mono tasks points figures bounds k q (under bounds w) in
      omega arith

  pub under_start : (figures : List ℕ)
      → ((k : ℕ) → k < length tasks → get_or figures k 0 ≤ (get_or tasks k no_task).execution + (get_or tasks k no_task).suspension)
      → Under figures
  under_start figures small = under_rise [] figures (λ bounds w k h. omega arith) (λ k h q inside. let s = small k h in omega arith)

  pub refuses_late : (figures : List ℕ) (k : ℕ) → Under figures → k < length tasks → AllLate tasks points figures k → Refuses tasks points
  refuses_late figures k under h late bounds w =
      let (q, inside, covered) = w.covered k h in
      let low = late q inside in
      let up = total_mono tasks points figures bounds k q (under bounds w) in
      let due = w.in_time k h in
      omega arith

  pub first_offset : (figures bounds : List ℕ) (k q : ℕ) → ((i : ℕ) → i < length tasks → get_or bounds i 0 ≡ get_or figures i 0)
      → SmallestTotal tasks points figures k (get_or bounds k 0) q → FirstOffset tasks points bounds k q
  first_offset figures bounds k q same s =
      let at = λ (j : ℕ). total_same figures bounds k j same in
      record {
        inside = s.inside;
        attains = at q ∙ s.attains;
        first = λ j below e. omega (arith, s.first j below, at j);
      }

  pub smallest_unmoved : (bounds : List ℕ) (offsets : ℕ → ℕ)
      → ((k : ℕ) → k < length tasks → 1 ≤ (get_or tasks k no_task).execution) → length bounds ≡ length tasks → Under bounds
      → ((k : ℕ) → k < length tasks → FirstOffset tasks points bounds k (offsets k))
      → ((k : ℕ) → k < length tasks → get_or bounds k 0 ≤ (get_or tasks k no_task).deadline) → Smallest tasks points bounds
  smallest_unmoved bounds offsets runs one_each under first in_time =
      record {
        warrant = record {
          one_each = one_each;
          positive = λ k h. omega (arith, runs k h, (first k h).attains);
          in_time = in_time;
          covered = λ k h. (offsets k, (first k h).inside, omega (arith, (first k h).attains));
        };
        least = under;
      }
