-- What a call answers, and what it leaves in the result bytes.
use Rattle.std.specs.Prelude.{◌≡◌, ℕ, ◌*◌, ◌⊎◌, List, ◌++◌, length, drop, ℤ, Ok, Err, Result, MatchResult, slice_index}
use Rattle.model.specs.Checks.{question}
use Rattle.model.specs.Refusals.{number}
use Rattle.model.specs.Verdict.{Admits, Refuses, first_points}
use Rattle.model.specs.declared.figures.Figures.{Figures}
use Rattle.model.specs.declared.refusal.Refusal.{Refusal}
use Rattle.model.specs.declared.refusal.Refusal.TheVariants.{NoWarrant}
use Rattle.rules.specs.Choices.{choice_of, chosen_point}
use Rattle.rules.specs.declared.choice.Choice.{Choice}
use Rattle.host.specs.Checked.{checks}
use Rattle.host.specs.Rows.{rows}
use Rattle.host.specs.Written.{answer_bytes}

-- The number that a host sees: 0 for yes, else that of the refusal.
abbrev pub code : {X : Type 0} → Result X Refusal → ℕ
code (Ok x) = 0
code (Err refusal) = number refusal

-- The rule that three bytes choose: kind, C-weight, S-weight.
abbrev pub chosen : List ℕ → Choice
chosen rule = choice_of (slice_index rule 0) (slice_index rule 1) (slice_index rule 2)

-- The points of tasks under a choice.
abbrev pub chosen_points : Choice → List Figures → List ℤ
chosen_points choice tasks = first_points (chosen_point choice tasks) (length tasks)

-- Yes: 0, and the result begins with the smallest bounds and their offsets; the bytes behind them are as they were.
pub record Granted (tasks : List Figures) (points : List ℤ) (before after : List ℕ) (answer : ℕ) : Type 0 where
  pub bounds : List ℕ
  pub offsets : List ℕ
  pub admits : Admits tasks points bounds offsets
  pub yes : answer ≡ 0
  pub bytes : after ≡ answer_bytes bounds offsets ++ drop (4 * length tasks) before

-- A refusal: its number, and every result byte is as it was.
pub record Refused (before after : List ℕ) (answer : ℕ) (refusal : Refusal) : Type 0 where
  pub why : answer ≡ number refusal
  pub same : after ≡ before

-- The verdict on tasks that no check refuses: yes with the smallest bounds, or no since no bounds hold.
abbrev pub Decided : List Figures → List ℤ → List ℕ → List ℕ → ℕ → Type 0
Decided tasks points before after answer =
    Granted tasks points before after answer ⊎ (Refuses tasks points × Refused before after answer NoWarrant)

-- What follows from the checks: their refusal, or the verdict on the tasks that pass them.
abbrev pub Follows : Choice → List ℕ → List ℕ → ℕ → Result (List Figures) Refusal → Type 0
Follows choice before after answer checked =
    MatchResult checked (λ tasks. Decided tasks (chosen_points choice tasks) before after answer) (Refused before after answer)

-- A call on table bytes and rule bytes, with the result bytes before and after it: the checks in their order, then the test of
-- the described tasks under the chosen rule.
abbrev pub Answered : List ℕ → List ℕ → List ℕ → List ℕ → ℕ → Type 0
Answered table rule before after answer =
    Follows (chosen rule) before after answer (question (checks table rule (length before)) (rows table))
