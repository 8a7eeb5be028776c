use Rattle.std.proofs.Common.{◌≡◌, map, take}
use Rattle.admission.proofs.rounds.widened.Given as goal

abbrev pub invariant-loop-bound : goal.invariant-loop-bound
invariant-loop-bound l = l.figures.items ≡ map (λ p. p.0) (take l.bound-index l.found)
