-- A rule by three bytes: a kind and two weights.
use Rattle.std.specs.Prelude.{◌≡◌, ℕ, Bool, true, cond, not, ◌||◌, List, [], ◌∷◌, ℤ, pos, ◌-ℤ◌, Result, IfOk, nat_lt, slice_index}
use Rattle.model.specs.Checks.{question}
use Rattle.model.specs.Rules.{allowed, by_points, lower_number, weighted_point}
use Rattle.model.specs.declared.figures.Figures.{Figures}
use Rattle.model.specs.declared.job.JobId.{JobId}
use Rattle.model.specs.declared.refusal.Refusal.{Refusal}
use Rattle.model.specs.declared.refusal.Refusal.TheVariants.{RuleOutOfRange}
use Rattle.rules.specs.Kinds.{bottom_point, kind_of, no_kind}
use Rattle.rules.specs.declared.bottom.Kind.TheVariants.{Deadline}
use Rattle.rules.specs.declared.choice.Choice.{Choice}

-- A byte in two's complement.
abbrev pub signed : ℕ → ℤ
signed byte = cond (nat_lt byte 128) (pos byte) (pos byte -ℤ pos 256)

-- The weight of a byte, refused if it is outside its range.
abbrev pub weight_from : ℕ → Result ℤ Refusal
weight_from byte = question ((not (allowed (signed byte)), RuleOutOfRange) ∷ []) (signed byte)

-- The kind is above 2, or a weight is outside its range.
abbrev pub out_of_range : ℕ → ℕ → ℕ → Bool
out_of_range kind execution suspension = no_kind kind || (not (allowed (signed execution)) || not (allowed (signed suspension)))

-- The weights of a choice are in their range.
abbrev pub Light : Choice → Type 0
Light choice = (allowed choice.execution ≡ true) × (allowed choice.suspension ≡ true)

-- What three bytes mean: kind, C-weight, S-weight.
abbrev pub choice_of : ℕ → ℕ → ℕ → Choice
choice_of kind execution suspension =
    record { kind = kind_of kind; execution = signed execution; suspension = signed suspension }

-- The choice that three bytes make, refused if it is out of range.
abbrev pub choose : ℕ → ℕ → ℕ → Result Choice Refusal
choose kind execution suspension =
    question ((out_of_range kind execution suspension, RuleOutOfRange) ∷ []) (choice_of kind execution suspension)

-- What three bytes give: the choice that they make, or the refusal; and the weights of a choice are in their range.
pub record Chosen (bytes : List ℕ) (r : Result Choice Refusal) : Type 0 where
  pub answer : r ≡ choose (slice_index bytes 0) (slice_index bytes 1) (slice_index bytes 2)
  pub light : IfOk r Light

-- Deadline with weights 0.
abbrev pub plain : Choice
plain = record { kind = Deadline; execution = pos 0; suspension = pos 0 }

module _ (choice : Choice) (tasks : List Figures) where
  -- The points of the C-weight over the kind.
  abbrev pub middle_point : ℕ → ℤ
  middle_point = weighted_point (λ f. f.execution) tasks choice.execution (bottom_point choice.kind tasks)

  -- The points of the chosen rule: the S-weight over the C-weight over the kind.
  abbrev pub chosen_point : ℕ → ℤ
  chosen_point = weighted_point (λ f. f.suspension) tasks choice.suspension middle_point

  -- Its order: on equal priority points each layer answers as the rule below it, and the kind's rule by the lower number.
  abbrev pub chosen_before : JobId → JobId → Bool
  chosen_before = by_points chosen_point (by_points middle_point (by_points (bottom_point choice.kind tasks) lower_number))
