use Rattle.admission.specs.Views.{tasks_of}
use Rattle.dispatch.proofs.Held.{Filling}
use Rattle.dispatch.specs.Runs.{Kept, of_rule, of_set, state}
use Rattle.dispatch.proofs.holder.make_all.Given as goal

abbrev pub invariant-loop-slot : goal.invariant-loop-slot
invariant-loop-slot g l =
    Kept l.initial.run l.run
    × Filling (tasks_of (of_set l.initial.run)) (g.R.OrderRule.before (of_rule l.initial.run)) (state l.initial.run)
    l.initial.entries
    (state l.run) l.entries l.slot-index
