-- What items outside of a run say, and what is left to say.
use Rattle.std.proofs.Common.{◌≡◌, Bool, ◌∷◌, ◌++◌, IfOk, Ok, Err, Result, refl, ◌∙◌}
use Rattle.model.specs.declared.refusal.Refusal.{Refusal}
use Rattle.rules.specs.Choices.{chosen_before, chosen_point}
use Rattle.script.specs.Commands.{Item}
use Rattle.script.specs.Setups.{Desk}
use Rattle.script.specs.declared.setup.Entered.{Entered}
use Rattle.script.specs.declared.setup.Entered.TheVariants.{Starts}
use Rattle.text.specs.Lines.{printed}
use Rattle.text.specs.Playing.{Heard, Tried, left, told}
use Rattle.text.specs.Spoken.{entry, heard, outside, run_lines, started, verdict_on}
use Rattle.text.specs.declared.player.Player.{Player}

module _ (item : Item) (d d' : Desk) (p p' : Player) (state : d' ≡ (heard item d).1) where
  -- What an item says by its answer, which is known.
  answered : (r : Result Entered Refusal) → r ≡ (heard item d).0 → (verdict : _)
      → told p ++ printed (outside verdict d (item ∷ left p))
      ≡ told p ++ printed (entry r (started (verdict_on verdict d') (run_lines d' (left p)) (outside verdict d' (left p))) (outside verdict d' (left p)))
  answered r answer verdict = rw (answer, state) refl

  -- A start says what its verdict says.
  pub heard_starts : {E : Type 0} → Ok Starts ≡ (heard item d).0 → (r : Result Bool E)
      → IfOk r (Tried d'.tasks (chosen_point d'.choice d'.tasks) (chosen_before d'.choice d'.tasks) p p') → IfOk r (Heard item d d' p p')
  heard_starts answer (Ok played) tried =
      record {
        said = λ verdict right. answered (Ok Starts) answer verdict ∙ tried.said verdict right (outside verdict d' (left p));
        rest = tried.rest;
      }
  heard_starts answer (Err e) tried = tt
