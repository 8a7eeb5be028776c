-- The run law, by induction over the calls.
use Rattle.std.proofs.Common.{ℕ, Bool, List, [], ◌∷◌, ℤ}
use Rattle.std.specs.List.{zip}
use Rattle.model.specs.Machine.{answers}
use Rattle.model.specs.Promises.{Promises}
use Rattle.model.specs.Reading.{Reading, read_on}
use Rattle.model.specs.RunLaw.{RunLaw}
use Rattle.model.specs.State.{State}
use Rattle.model.specs.declared.call.Call.{Call}
use Rattle.model.specs.declared.figures.Figures.{Figures}
use Rattle.model.specs.declared.job.JobId.{JobId}
use Rattle.model.proofs.Admitted.{Admitted}
use Rattle.model.proofs.Kept.{Kept, begins, promises}
use Rattle.model.proofs.Steps.{step_kept}

run_kept : {tasks : List Figures} {points : List ℤ} {bounds : List ℕ} {point : ℕ → ℤ} {before : JobId → JobId → Bool}
    → Admitted tasks points bounds point before → (calls : List Call) {s : State} {r : Reading} → Kept tasks bounds point s r
    → Promises tasks bounds (read_on r (zip calls (answers tasks before s calls)))
run_kept set [] kept = promises kept
run_kept set (c ∷ calls) kept = run_kept set calls (step_kept set kept c)

pub run_law : RunLaw
run_law tasks points bounds allowed warrant point before lawful points_are calls =
    run_kept (record { allowed = allowed; warrant = warrant; lawful = lawful; points_are = points_are }) calls begins
