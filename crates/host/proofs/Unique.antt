-- Bounds, offsets and so the outcome of a call are determined.
use Rattle.std.proofs.Common.{◌≡◌, ℕ, ◌*◌, List, ◌++◌, length, drop, Some, Ok, Err, Option, Result, sym, ap, ◌∙◌, ap₂, inl, inr}
use Rattle.admission.proofs.Unique.{one_answer}
use Rattle.model.specs.Checks.{question}
use Rattle.model.specs.declared.figures.Figures.{Figures}
use Rattle.model.specs.declared.refusal.Refusal.{Refusal}
use Rattle.host.specs.Answered.{Follows, chosen, chosen_points}
use Rattle.host.specs.Checked.{checks}
use Rattle.host.specs.Determined.{Determined}
use Rattle.host.specs.Rows.{rows}
use Rattle.host.specs.Written.{answer_bytes}

pub one_outcome : Determined
one_outcome table rule before after after' answer answer' =
    go (question (checks table rule (length before)) (rows table))
  where
    go : (checked : Result (List Figures) Refusal) → Follows (chosen rule) before after answer checked
        → Follows (chosen rule) before after' answer' checked → (answer ≡ answer') × (after ≡ after')
    go (Err e) r r' = (r.why ∙ sym r'.why, r.same ∙ sym r'.same)
    go (Ok tasks) (inr n) (inr n') = (n.1.why ∙ sym n'.1.why, n.1.same ∙ sym n'.1.same)
    go (Ok tasks) (inr n) (inl y') = absurd (n.0 y'.bounds y'.admits.smallest.warrant)
    go (Ok tasks) (inl y) (inr n') = absurd (n'.0 y.bounds y.admits.smallest.warrant)
    go (Ok tasks) (inl y) (inl y') =
        let points = chosen_points (chosen rule) tasks in
        let same : ◌≡◌ {A = Option (List ℕ × List ℕ)} (Some (y.bounds, y.offsets)) (Some (y'.bounds, y'.offsets)) =
        one_answer tasks points (Some (y.bounds, y.offsets)) (Some (y'.bounds, y'.offsets)) y.admits y'.admits in
        let pair : ◌≡◌ {A = List ℕ × List ℕ} (y.bounds, y.offsets) (y'.bounds, y'.offsets) = cc in (
          y.yes ∙ sym y'.yes,
          y.bytes ∙ (ap₂ (λ (bs qs : List ℕ). answer_bytes bs qs ++ drop (4 * length tasks) before) (ap (λ p. p.0) pair) (ap (λ p. p.1) pair) ∙ sym y'.bytes),
        )
