use Rattle.rules.proofs.Filled.{Filled}
use Rattle.rules.proofs.Made.{weights}
use Rattle.rules.specs.Figure.{figure_of}
use Rattle.rules.proofs.weighted.Weighted.points.Given as goal

abbrev pub invariant-loop-i : goal.invariant-loop-i
invariant-loop-i g l = Filled l.points l.i (weights (figure_of l.figure) l.weight (g.R.OrderRule.points l.below) l.tasks)
