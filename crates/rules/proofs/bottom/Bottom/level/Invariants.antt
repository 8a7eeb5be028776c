use Rattle.std.proofs.Common.{◌≡◌, ◌*◌, ◌≤◌, pos}
use Rattle.model.specs.Rules.{deadline}
use Rattle.model.specs.Sums.{sum_to}
use Rattle.rules.proofs.Filled.{Filled}
use Rattle.rules.proofs.Made.{levels}
use Rattle.rules.proofs.bottom.Bottom.level.Given as goal

abbrev pub invariant-loop-i : goal.invariant-loop-i
invariant-loop-i l = Filled l.points l.i (levels l.tasks) × (l.level ≡ pos (sum_to l.i (deadline l.tasks))) × (sum_to l.i
    (deadline l.tasks) ≤ 65535 * l.i)
