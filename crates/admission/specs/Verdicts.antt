-- The verdict of the test, as a function of tasks and points.
use Rattle.std.specs.Prelude.{◌≡◌, ℕ, List, length, ℤ, Option}
use Rattle.model.specs.Figures.{Tasks}
use Rattle.model.specs.Worked.{Answered}
use Rattle.model.specs.declared.figures.Figures.{Figures}

-- For tasks and their points a bound and an offset for each task, or none.
abbrev pub Verdict : Type 0
Verdict = List Figures → List ℤ → Option (List ℕ × List ℕ)

-- The verdict is right: the smallest bounds with their smallest offsets, and none only where no bounds hold.
abbrev pub Right : Verdict → Type 0
Right verdict =
    (tasks : List Figures) (points : List ℤ) → Tasks tasks → length points ≡ length tasks → Answered tasks points (verdict tasks points)

-- Two verdicts agree wherever there is something to test.
abbrev pub Agreed : Verdict → Verdict → Type 0
Agreed one other =
    (tasks : List Figures) (points : List ℤ) → Tasks tasks → length points ≡ length tasks → one tasks points ≡ other tasks points
