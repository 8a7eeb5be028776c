-- What a start says by the verdict on its table.
use Rattle.std.proofs.Common.{◌≡◌, ℕ, Bool, true, false, List, [], ◌∷◌, ◌++◌, length, get_or, ℤ, pos, Some, None, Option, sym, ap, ◌∙◌, append-nil, arith}
use Rattle.std.proofs.lemmas.Bool.{true≢false}
use Rattle.std.proofs.lemmas.List.FromFn.{get_or-map-range_with_len, length-map-range_with_len}
use Rattle.admission.proofs.Unique.{one_answer}
use Rattle.admission.specs.Tested.{Granted, Refused as NotGranted}
use Rattle.admission.specs.Verdicts.{Right, Verdict}
use Rattle.admission.specs.Views.{bounds_of, offsets_of, tasks_of}
use Rattle.admission.specs.declared.accepted.Accepted.{Accepted}
use Rattle.dispatch.specs.Runs.{Agree}
use Rattle.model.specs.Figures.{Tasks}
use Rattle.model.specs.Verdict.{first_points}
use Rattle.model.specs.Worked.{Answered}
use Rattle.model.specs.declared.figures.Figures.{Figures}
use Rattle.model.specs.declared.job.JobId.{JobId}
use Rattle.model.specs.declared.refusal.Refusal.{Refusal}
use Rattle.script.specs.Sessions.{opened}
use Rattle.text.specs.Lines.{printed}
use Rattle.text.specs.Playing.{Says, Tried, left, told}
use Rattle.text.specs.Spoken.{bound_lines, inside, started}
use Rattle.text.specs.declared.line.Line.{Line}
use Rattle.text.specs.declared.line.Line.TheVariants.{Refused}
use Rattle.text.specs.declared.player.Player.{Player}
use Rattle.text.proofs.Printed.{said_then}

module _ (tasks : List Figures) (point : ℕ → ℤ) where
  abbrev points : List ℤ
  points = first_points point (length tasks)

  -- A rule agrees with a set that was tested under its points.
  pub agrees : (set : Accepted) → Granted tasks points set → Agree set point
  agrees set granted k h =
      let many : length (tasks_of set) ≡ length tasks = ap length granted.its_tasks in
      sym (ap (λ (ps : List ℤ). get_or ps k (pos 0)) granted.its_points
      ∙ get_or-map-range_with_len point 0 (length tasks) k k (pos 0) (omega arith) (omega arith))

  module _ (allowed : Tasks tasks) (before : JobId → JobId → Bool) (p p' : Player) where
    one_each : length points ≡ length tasks
    one_each = length-map-range_with_len point 0 (length tasks)

    -- What a right verdict says, where the answer is known.
    says : (answer : Option (List ℕ × List ℕ)) (verdict : Verdict) → Right verdict → Answered tasks points answer → (later : List Line)
        → started (verdict tasks points) (inside tasks before opened (left p)) later ≡ started answer (inside tasks before opened (left p)) later
    says answer verdict right answered later =
        ap (λ (a : Option (List ℕ × List ℕ)). started a (inside tasks before opened (left p)) later)
        (one_answer tasks points (verdict tasks points) answer (right tasks points allowed one_each) answered)

    pub tried_yes : (set : Accepted) → Granted tasks points set
        → Says p p' (bound_lines 0 (bounds_of set) (offsets_of set) ++ inside (tasks_of set) before opened (left p))
        → Tried tasks point before p p' true
    tried_yes set granted said =
        record {
          said = λ verdict right later.
              ap (λ (ls : List Line). told p ++ printed ls) (says (Some (bounds_of set, offsets_of set)) verdict right granted.admits later)
              ∙ (ap (λ (ts : List Figures). told p ++ printed (bound_lines 0 (bounds_of set) (offsets_of set) ++ inside ts before opened (left p)))
              (sym granted.its_tasks) ∙ (sym said ∙ sym (append-nil (told p'))));
          rest = λ e. absurd (true≢false e);
        }

    pub tried_no : (set set' : Accepted) (why : Refusal) → NotGranted tasks points set set' why
        → Says p p' (Refused why ∷ []) → left p' ≡ left p → Tried tasks point before p p' false
    tried_no set set' why not said rest =
        record {
          said = λ verdict right later.
              ap (λ (ls : List Line). told p ++ printed ls) (says None verdict right not.refuses later)
              ∙ (ap (λ (e : Refusal). told p ++ printed (Refused e ∷ later)) (sym not.why)
              ∙ said_then (told p) (told p') (Refused why ∷ []) later said);
          rest = λ _. rest;
        }
