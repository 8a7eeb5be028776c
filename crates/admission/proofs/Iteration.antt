-- Rounds of figures that rise until none moves.
use Rattle.std.proofs.Common.{◌≡◌, ℕ, zero, suc, ◌+◌, ◌-◌, ◌<◌, ◌≤◌, List, [], ◌∷◌, ◌++◌, length, get_or, ℤ, ⊎_elim, arith, below_more}
use Rattle.std.proofs.lemmas.List.{get_or_push}
use Rattle.std.proofs.Math.ListN.{get_or-append}
use Rattle.std.proofs.lemmas.Bool.{cases_eq, cases_lt}
use Rattle.model.specs.Figures.{AllFit, no_task}
use Rattle.model.specs.Sums.{sum_to}
use Rattle.model.specs.Test.{FirstOffset}
use Rattle.model.specs.Verdict.{Admits, SmallestTotal}
use Rattle.model.specs.declared.figures.Figures.{Figures}
use Rattle.model.proofs.Rounds.{Under, Rise, under_rise, under_start, first_offset, smallest_unmoved}
use Rattle.model.proofs.Sums.{sum_to_mono}
use Rattle.model.proofs.Totals.{total_mono}
use Rattle.admission.specs.Rows.{Same, Start}

-- The sum of the first k figures.
abbrev sum : List ℕ → ℕ → ℕ
sum figures k = sum_to k (λ i. get_or figures i 0)

-- Figures that are nowhere below others, and not all the same, have the larger sum.
sum_grows : (figures bounds : List ℕ) (n : ℕ) → ((k : ℕ) → k < n → get_or figures k 0 ≤ get_or bounds k 0) → (Same figures bounds n → ⊥)
    → sum figures n < sum bounds n
sum_grows figures bounds zero up differ = absurd (differ (λ k h. absurd (omega arith)))
sum_grows figures bounds (suc n) up differ =
    let here : get_or figures n 0 ≤ get_or bounds n 0 = up n (omega arith) in
    let below = sum_to_mono n (λ k. get_or figures k 0) (λ k. get_or bounds k 0) (λ k h. up k (omega arith)) in
    ⊎_elim
    (λ (e : get_or bounds n 0 ≡ get_or figures n 0).
    let less = sum_grows figures bounds n (λ k h. up k (omega arith)) (λ same. differ (λ k h.
    ⊎_elim (λ (l : k < n). same k l) (λ (l : n ≤ k). let last : k ≡ n = omega arith in rw last e) (cases_lt k n))) in
    omega arith)
    (λ ne. omega arith) (cases_eq (get_or bounds n 0) (get_or figures n 0))

-- How far the figures are from passing every deadline.
abbrev pub distance : List Figures → List ℕ → ℕ
distance tasks figures = sum_to (length tasks) (λ k. (get_or tasks k no_task).deadline + 1) - sum figures (length tasks)

module _ (tasks : List Figures) (points : List ℤ) where
  -- Figures on their way up to the smallest bounds.
  pub record Rising (figures : List ℕ) : Type 0 where
    pub under : Under tasks points figures
    pub rise : Rise tasks points figures figures
    pub cut : (k : ℕ) → k < length tasks → get_or figures k 0 ≤ (get_or tasks k no_task).deadline + 1

  -- What a round has found for the first tasks.
  pub record Found (figures bounds offsets : List ℕ) (many : ℕ) : Type 0 where
    pub smallest : (k : ℕ) → k < many → SmallestTotal tasks points figures k (get_or bounds k 0) (get_or offsets k 0)
    pub in_time : (k : ℕ) → k < many → get_or bounds k 0 ≤ (get_or tasks k no_task).deadline

  pub rising_start : (figures : List ℕ) → Start tasks figures → Rising figures
  rising_start figures s =
      record {
        under = under_start tasks points figures (λ k h. omega (arith, s.value k h));
        rise = λ k h q inside. omega (arith, s.value k h);
        cut = λ k h. omega (arith, s.value k h);
      }

  -- A smallest total is not below the figure that it takes the place of.
  up : (figures : List ℕ) (k b q : ℕ) → k < length tasks → Rising figures → SmallestTotal tasks points figures k b q → get_or figures k 0 ≤ b
  up figures k b q h c s = omega (arith, c.rise k h q s.inside, s.attains)

  pub found_more : (figures bounds offsets : List ℕ) (many b q : ℕ) → length bounds ≡ many → length offsets ≡ many
      → Found figures bounds offsets many → SmallestTotal tasks points figures many b q → b ≤ (get_or tasks many no_task).deadline
      → Found figures (bounds ++ b ∷ []) (offsets ++ q ∷ []) (many + 1)
  found_more figures bounds offsets many b q long as_long r total in_time =
      let here = get_or_push bounds b 0 many long in
      let there = get_or_push offsets q 0 many as_long in
      record {
        smallest = below_more (λ k. SmallestTotal tasks points figures k (get_or (bounds ++ b ∷ []) k 0) (get_or (offsets ++ q ∷ []) k 0)) many
            (λ k h. rw (get_or-append bounds (b ∷ []) 0 k (omega arith), get_or-append offsets (q ∷ []) 0 k (omega arith)) (r.smallest k h))
            (rw (here, there) total);
        in_time = below_more (λ k. get_or (bounds ++ b ∷ []) k 0 ≤ (get_or tasks k no_task).deadline) many
            (λ k h. rw (get_or-append bounds (b ∷ []) 0 k (omega arith)) (r.in_time k h)) (rw here in_time);
      }

  module _ (figures bounds offsets : List ℕ) (c : Rising figures) (r : Found figures bounds offsets (length tasks)) where
    up_all : (k : ℕ) → k < length tasks → get_or figures k 0 ≤ get_or bounds k 0
    up_all k h = up figures k _ _ h c (r.smallest k h)

    pub rising_round : Rising bounds
    rising_round =
        record {
          under = under_rise tasks points figures bounds c.under (λ k h. (r.smallest k h).smallest);
          rise = λ k h q inside. omega (arith, (r.smallest k h).smallest q inside, total_mono tasks points figures bounds k q up_all);
          cut = λ k h. omega (arith, r.in_time k h);
        }

    pub distance_falls : (Same figures bounds (length tasks) → ⊥) → distance tasks bounds < distance tasks figures
    distance_falls differ =
        let rises = sum_grows figures bounds (length tasks) up_all differ in
        omega (arith, sum_to_mono (length tasks) (λ k. get_or bounds k 0) (λ k. (get_or tasks k no_task).deadline + 1) rising_round.cut)

    pub admits_unmoved : AllFit tasks → length bounds ≡ length tasks → length offsets ≡ length tasks → Same figures bounds (length tasks) → Admits tasks points bounds offsets
    admits_unmoved fit long as_long m =
        let first : (k : ℕ) → k < length tasks → FirstOffset tasks points bounds k (get_or offsets k 0) =
        λ k h. first_offset tasks points figures bounds k _ m (r.smallest k h) in
        record {
          smallest = smallest_unmoved tasks points bounds (λ k. get_or offsets k 0) (λ k h. (fit k h).0) long
              (λ others w k h. omega (arith, m k h, c.under others w k h)) first r.in_time;
          one_each = as_long;
          first = first;
        }
