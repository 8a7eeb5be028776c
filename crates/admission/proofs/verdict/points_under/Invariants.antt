use Rattle.std.proofs.Common.{◌≡◌, length}
use Rattle.model.specs.Verdict.{first_points}
use Rattle.admission.proofs.verdict.points_under.Given as goal

abbrev pub invariant-loop-task : goal.invariant-loop-task
invariant-loop-task g l = (length l.points.items ≡ l.task) × (l.points.items ≡ first_points (g.R.OrderRule.points l.rule) l.task)
