use Rattle.std.proofs.Common.{◌≡◌, ℕ, ◌<◌, get_or, pos}
use Rattle.admission.specs.Views.{points_of}
use Rattle.dispatch.proofs.run.Checked.check.Given as goal

abbrev pub invariant-loop-task : goal.invariant-loop-task
invariant-loop-task g l = (k : ℕ) → k < l.task → g.R.OrderRule.points l.rule k ≡ get_or (points_of l.set) k (pos 0)
