-- The lines of the worked script, computed.
use Rattle.std.proofs.Common.{◌≡◌, ℕ, zero, suc, ◌<◌, List, [], ◌∷◌, get_or, ℤ, pos, Some, Option, refl, arith}
use Rattle.admission.proofs.Unique.{one_answer}
use Rattle.model.proofs.WorkedSets.{worked}
use Rattle.model.specs.Figures.{Fit, no_task}
use Rattle.model.specs.Worked.{pair, two}
use Rattle.text.specs.Worked.{Worked}

fits : (k : ℕ) → k < 2 → Fit (get_or pair k no_task)
fits zero h = (omega arith, omega arith, omega arith)
fits (suc zero) h = (omega arith, omega arith, omega arith)
fits (suc (suc k)) h = absurd (omega arith)

pub worked_script_said : Worked
worked_script_said verdict right =
    let points : List ℤ = pos 5 ∷ pos 7 ∷ [] in
    let answer : Option (List ℕ × List ℕ) = Some (two 4 6, two 0 0) in
    let same : verdict pair points ≡ answer =
    one_answer pair points (verdict pair points) answer (right pair points (omega arith, fits) refl) worked.0 in
    rw same
