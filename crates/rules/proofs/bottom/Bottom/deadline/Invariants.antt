use Rattle.rules.proofs.Filled.{Filled}
use Rattle.rules.proofs.Made.{deadlines}
use Rattle.rules.proofs.bottom.Bottom.deadline.Given as goal

abbrev pub invariant-loop-i : goal.invariant-loop-i
invariant-loop-i l = Filled l.points l.i (deadlines l.tasks)
