use Rattle.admission.proofs.total.Round.smallest_total.Given as goal
use Rattle.admission.proofs.Best.{Best}

abbrev pub invariant-loop-offset : goal.invariant-loop-offset
invariant-loop-offset l = Best l.self.tasks.now l.self.points.now l.self.figures.now l.own l.offset l.best l.at
