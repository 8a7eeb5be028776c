use Rattle.std.proofs.Common.{arith}
use Rattle.words.proofs.Changes.{taken_off}
use Rattle.words.proofs.SetBitsIterator.next.Goals as goal

pub returns-clause-steps : goal.returns-clause-steps
returns-clause-steps c = (c.in_ok-k.ensures, taken_off c.args.self.now.rest c.in_ok-k.k (omega arith) c.in_ok-k.ensures.there)
