use Rattle.words.proofs.Changes.{put_in}
use Rattle.words.proofs.with.Goals as goal

pub returns-then-k-lt32-clause-bits : goal.returns-then-k-lt32-clause-bits
returns-then-k-lt32-clause-bits c = put_in c.args.word c.args.k
