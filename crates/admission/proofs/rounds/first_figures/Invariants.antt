use Rattle.std.proofs.Common.{◌≡◌, ℕ, ◌+◌, ◌<◌, min, length, get_or}
use Rattle.model.specs.Figures.{no_task}
use Rattle.admission.proofs.rounds.first_figures.Given as goal

abbrev pub invariant-loop-task : goal.invariant-loop-task
invariant-loop-task l =
    (length l.figures.items ≡ l.task-index) × ((i : ℕ) → i < l.task-index → get_or l.figures.items i 0
    ≡ min ((get_or l.tasks i no_task).execution + (get_or l.tasks i no_task).suspension) ((get_or l.tasks i no_task).deadline + 1))
