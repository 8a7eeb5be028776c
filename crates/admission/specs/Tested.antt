-- What the test answers, and what it leaves in its place.
use Rattle.std.specs.Prelude.{◌≡◌, List, ℤ, Result, MatchResult}
use Rattle.model.specs.Verdict.{Admits, Refuses}
use Rattle.model.specs.declared.figures.Figures.{Figures}
use Rattle.model.specs.declared.refusal.Refusal.{Refusal}
use Rattle.model.specs.declared.refusal.Refusal.TheVariants.{NoWarrant}
use Rattle.admission.specs.Views.{tasks_of, points_of, bounds_of, offsets_of}
use Rattle.admission.specs.declared.accepted.Accepted.{Accepted}

-- A granted test: the set has these tasks and points, and the smallest bounds with their smallest offsets.
pub record Granted (tasks : List Figures) (points : List ℤ) (set : Accepted) : Type 0 where
  pub its_tasks : tasks_of set ≡ tasks
  pub its_points : points_of set ≡ points
  pub admits : Admits tasks points (bounds_of set) (offsets_of set)

-- A refused test: no warrant exists, and the place is as it stood.
pub record Refused (tasks : List Figures) (points : List ℤ) (before after : Accepted) (refusal : Refusal) : Type 0 where
  pub why : refusal ≡ NoWarrant
  pub refuses : Refuses tasks points
  pub same : after ≡ before

-- The test answers yes or no, as is right, and leaves what goes with it.
abbrev pub Tested : {X : Type 0} → List Figures → List ℤ → Accepted → Accepted → Result X Refusal → Type 0
Tested tasks points before after answer = MatchResult answer (λ _. Granted tasks points after) (Refused tasks points before after)
