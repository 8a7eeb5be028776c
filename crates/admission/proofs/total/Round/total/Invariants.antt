use Rattle.std.proofs.Common.{◌≡◌, ◌+◌, ◌*◌, ◌^◌, ◌≤◌, get_or}
use Rattle.model.specs.Figures.{no_task}
use Rattle.model.specs.Sums.{sum_to}
use Rattle.model.specs.Test.{share}
use Rattle.admission.proofs.total.Round.total.Given as goal

abbrev pub invariant-loop-other : goal.invariant-loop-other
invariant-loop-other l =
    (l.sum ≡ (((get_or l.self.tasks.now l.own no_task).execution + (get_or l.self.tasks.now l.own no_task).suspension) + l.offset)
    + sum_to l.other (share l.self.tasks.now l.self.points.now l.self.figures.now l.own l.offset))
    × (l.sum ≤ 2 ^ 20 + l.other * 2 ^ 50)
