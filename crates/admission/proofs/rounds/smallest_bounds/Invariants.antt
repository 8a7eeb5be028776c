use Rattle.std.proofs.Common.{◌≡◌, length, map}
use Rattle.admission.proofs.Iteration.{distance, Rising, Found}
use Rattle.admission.proofs.rounds.smallest_bounds.Given as goal

abbrev pub invariant-rounds : goal.invariant-rounds
invariant-rounds l = (length l.figures.items ≡ length l.tasks) × Rising l.tasks l.points l.figures.items

abbrev pub decreases-rounds : goal.decreases-rounds
decreases-rounds l = distance l.tasks l.figures.items

abbrev pub invariant-loop-own : goal.invariant-loop-own
invariant-loop-own l =
    (length l.found.items ≡ l.own)
    × Found l.tasks l.points l.round.1.1.0.now (map (λ p. p.0) l.found.items) (map (λ p. p.1) l.found.items) l.own
