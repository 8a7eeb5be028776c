-- What a run stands for, and what checking answers.
use Rattle.std.specs.Prelude.{◌≡◌, ℕ, ◌<◌, List, length, ℤ, pos, Result, MatchResult, slice_index_or}
use Rattle.admission.specs.Views.{points_of, tasks_of}
use Rattle.admission.specs.declared.accepted.Accepted.{Accepted}
use Rattle.model.specs.State.{State}
use Rattle.model.specs.declared.figures.Figures.{Figures}
use Rattle.model.specs.declared.refusal.Refusal.{Refusal}
use Rattle.model.specs.declared.refusal.Refusal.TheVariants.{OtherPoints}
use Rattle.dispatch.specs.Boards.{set_of, state_of, tasks_on}
use Rattle.dispatch.specs.declared.run.Checked.{Checked}
use Rattle.dispatch.specs.declared.run.Run.{Run}

-- The points agree with those that the set was admitted with.
abbrev pub Agree : Accepted → (ℕ → ℤ) → Type 0
Agree set points = (k : ℕ) → k < length (tasks_of set) → points k ≡ slice_index_or (points_of set) k (pos 0)

module _ {R : Type 0} where
  -- A granted check has the set and the rule, whose points agree; it is refused exactly if they do not.
  abbrev pub Matched : Accepted → R → (ℕ → ℤ) → Result (Checked R) Refusal → Type 0
  Matched set rule points r =
      MatchResult r (λ c. Agree set points × (c.set.now ≡ set) × (c.rule.now ≡ rule)) (λ e. (e ≡ OtherPoints) × (Agree set points → ⊥))

  -- The set of a run.
  abbrev pub of_set : Run R → Accepted
  of_set r = set_of r.board

  -- The tasks of its set.
  abbrev pub set_tasks : Run R → List Figures
  set_tasks r = tasks_on r.board

  -- The rule of a run.
  abbrev pub of_rule : Run R → R
  of_rule r = r.rule.now

  -- The state of a run.
  abbrev pub state : Run R → State
  state r = state_of r.board

  -- A call leaves the set and the rule of a run.
  abbrev pub Kept : Run R → Run R → Type 0
  Kept before after = (of_set after ≡ of_set before) × (of_rule after ≡ of_rule before)
