use Rattle.admission.proofs.Filling.{Filling}
use Rattle.admission.proofs.accepted.Accepted.with.Given as goal

abbrev pub invariant-loop-figures : goal.invariant-loop-figures
invariant-loop-figures l =
    record {
      can : (goal.iterator-loop-figures).can_next l.figures-iterator;
      ends : (goal.iterator-loop-figures).is_finite l.figures-iterator;
      filling : Filling l.tasks l.points l.found l.rows.items l.figures-iterator;
    }
