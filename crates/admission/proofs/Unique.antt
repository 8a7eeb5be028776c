-- At most one answer of the test is right.
use Rattle.std.proofs.Common.{◌≡◌, ℕ, ◌<◌, ◌≤◌, List, length, get_or, ℤ, Some, None, Option, sym, refl, ◌∙◌, subst, ⊎_elim, le_antisymm, arith}
use Rattle.std.proofs.lemmas.List.{get_or_default, same_lists}
use Rattle.std.proofs.lemmas.Bool.{cases_lt}
use Rattle.model.specs.Test.{FirstOffset, Smallest}
use Rattle.model.specs.Verdict.{Admits}
use Rattle.model.specs.Worked.{Answered}
use Rattle.model.specs.declared.figures.Figures.{Figures}

module _ (tasks : List Figures) (points : List ℤ) where
  -- Lists with an entry for each task are the same if the entries are.
  same_entries : (xs ys : List ℕ) → length xs ≡ length tasks → length ys ≡ length tasks
      → ((k : ℕ) → k < length tasks → get_or xs k 0 ≡ get_or ys k 0) → xs ≡ ys
  same_entries xs ys long as_long same =
      same_lists xs ys (long ∙ sym as_long)
      (λ k d h. get_or_default xs k d 0 h ∙ (same k (omega arith) ∙ get_or_default ys k 0 d (omega arith)))

  same_bounds : (bounds others : List ℕ) → Smallest tasks points bounds → Smallest tasks points others → bounds ≡ others
  same_bounds bounds others a b =
      same_entries bounds others a.warrant.one_each b.warrant.one_each
      (λ k h. le_antisymm (a.least others b.warrant k h) (b.least bounds a.warrant k h))

  same_offset : (bounds : List ℕ) (k q p : ℕ) → FirstOffset tasks points bounds k q → FirstOffset tasks points bounds k p → q ≡ p
  same_offset bounds k q p a b =
      ⊎_elim (λ (l : q < p). absurd (b.first q l a.attains))
      (λ (l : p ≤ q). ⊎_elim (λ (m : p < q). absurd (a.first p m b.attains)) (λ (m : q ≤ p). omega arith) (cases_lt p q)) (cases_lt q p)

  same_answer : (bounds offsets others rest : List ℕ) → bounds ≡ others → Admits tasks points bounds offsets
      → Admits tasks points others rest → ◌≡◌ {A = Option (List ℕ × List ℕ)} (Some (bounds, offsets)) (Some (others, rest))
  same_answer bounds offsets others rest e a b =
      let moved = subst (λ (bs : List ℕ). (k : ℕ) → k < length tasks → FirstOffset tasks points bs k (get_or rest k 0)) (sym e) b.first in
      let f : offsets ≡ rest = same_entries offsets rest a.one_each b.one_each
      (λ k h. same_offset bounds k (get_or offsets k 0) (get_or rest k 0) (a.first k h) (moved k h)) in
      cc

  -- Two right answers are the same.
  pub one_answer : (one other : Option (List ℕ × List ℕ)) → Answered tasks points one → Answered tasks points other → one ≡ other
  one_answer (Some (bounds, offsets)) (Some (others, rest)) a b =
      same_answer bounds offsets others rest (same_bounds bounds others a.smallest b.smallest) a b
  one_answer (Some (bounds, offsets)) None a b = absurd (b bounds a.smallest.warrant)
  one_answer None (Some (others, rest)) a b = absurd (a others b.smallest.warrant)
  one_answer None None a b = refl
