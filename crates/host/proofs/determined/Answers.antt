use Rattle.host.proofs.Unique.{one_outcome}
use Rattle.host.proofs.determined.Goals as goal

pub returns : goal.returns
returns c = one_outcome
