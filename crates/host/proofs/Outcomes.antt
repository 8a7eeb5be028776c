-- From the steps of a call to what it answers.
use Rattle.std.proofs.Common.{◌≡◌, ℕ, ◌*◌, ◌%◌, ◌≤◌, Bool, true, false, not, eqb, ltb, List, [], ◌∷◌, ◌++◌, length, get_or, drop, ℤ, Ok, Result, sym, refl, ap, ◌∙◌, subst, ap₂, subst₂, inl, inr, arith}
use Rattle.std.proofs.lemmas.Bool.{ltb-false, or_parts}
use Rattle.admission.specs.Tested as tested
use Rattle.admission.specs.Views.{tasks_of, bounds_of, offsets_of}
use Rattle.admission.specs.declared.accepted.Accepted.{Accepted}
use Rattle.model.specs.Checks.{question}
use Rattle.model.specs.Refusals.{number}
use Rattle.model.specs.Verdict.{Admits, Refuses}
use Rattle.model.specs.declared.figures.Figures.{Figures}
use Rattle.model.specs.declared.refusal.Refusal.{Refusal}
use Rattle.model.specs.declared.refusal.Refusal.TheVariants.{RuleOutOfRange, WrongLength}
use Rattle.rules.specs.Choices.{choose, out_of_range}
use Rattle.rules.specs.declared.choice.Choice.{Choice}
use Rattle.host.specs.Answered.{Answered, Follows, chosen, chosen_points}
use Rattle.host.specs.Checked.{checks, table_checks, wrong_length}
use Rattle.host.specs.Rows.{row_count, rows}
use Rattle.host.specs.Written.{answer_bytes}
use Rattle.host.proofs.Entering.{length_rows}

passed : {A : Type 0} (b : Bool) (e : Refusal) (x y : A) → Ok y ≡ question ((b, e) ∷ []) x → (b ≡ false) × (y ≡ x)
passed true e x y is = absurd (grind arith)
passed false e x y is = (refl, (cc))

module _ (table rule before : List ℕ) where
  -- The lengths pass.
  abbrev pub LengthsPass : Type 0
  LengthsPass = Ok (tt {0}) ≡ question ((wrong_length table (length before), WrongLength) ∷ []) (tt {0})

  -- What the rule bytes choose.
  abbrev pub Chooses : Result Choice Refusal → Type 0
  Chooses r = r ≡ choose (get_or rule 0 0) (get_or rule 1 0) (get_or rule 2 0)

  module _ (lengths : LengthsPass) where
    long : wrong_length table (length before) ≡ false
    long = (passed (wrong_length table (length before)) WrongLength (tt {0}) (tt {0}) lengths).0

    -- There is room for the answers.
    pub room : 4 * length (rows table) ≤ length before
    room =
        let short = (or_parts (not (eqb (length table % 8) 0)) (ltb (length before) (4 * row_count table)) long).1 in
        let count = length_rows table in
        omega (arith, ltb-false (length before) (4 * row_count table) short)

    module _ (choice : Choice) (chooses : Chooses (Ok choice)) where
      in_range : (out_of_range (get_or rule 0 0) (get_or rule 1 0) (get_or rule 2 0) ≡ false) × (choice ≡ chosen rule)
      in_range = passed (out_of_range (get_or rule 0 0) (get_or rule 1 0) (get_or rule 2 0)) RuleOutOfRange (chosen rule) choice chooses

      -- Lengths and rule pass, so the checks of the table decide.
      by_table : question (table_checks (rows table)) (rows table) ≡ question (checks table rule (length before)) (rows table)
      by_table = let inside = in_range.0 in simp (long, inside)

      module _ (tasks : List Figures) (passes : question (table_checks (rows table)) (rows table) ≡ Ok (rows table))
          (entered : tasks ≡ rows table) where
        points : chosen_points choice tasks ≡ chosen_points (chosen rule) (rows table)
        points = ap₂ chosen_points in_range.1 entered

        pub said_yes : (set : Accepted) → tested.Granted tasks (chosen_points choice tasks) set → (after : List ℕ)
            → after ≡ answer_bytes (bounds_of set) (offsets_of set) ++ drop (4 * length (tasks_of set)) before
            → Answered table rule before after 0
        said_yes set granted after is =
            subst (Follows (chosen rule) before after 0) (sym passes ∙ by_table)
            (inl (record {
              bounds = bounds_of set;
              offsets = offsets_of set;
              admits = subst₂ (λ (ts : List Figures) (ps : List ℤ). Admits ts ps (bounds_of set) (offsets_of set)) entered points
                  granted.admits;
              yes = refl;
              bytes = is ∙ ap (λ (ts : List Figures). answer_bytes (bounds_of set) (offsets_of set) ++ drop (4 * length ts) before)
                  (granted.its_tasks ∙ entered);
            }))

        pub said_no : (held left : Accepted) (e : Refusal) → tested.Refused tasks (chosen_points choice tasks) held left e
            → Answered table rule before before (number e)
        said_no held left e declined =
            subst (Follows (chosen rule) before before (number e)) (sym passes ∙ by_table)
            (inr (
              subst₂ Refuses entered points declined.refuses,
              record { why = ap number declined.why; same = refl },
            ))
