use Rattle.words.proofs.Changes.{has_or}
use Rattle.words.proofs.union.Goals as goal

pub returns : goal.returns
returns c = record { bits = λ j. has_or j c.args.a c.args.b }
