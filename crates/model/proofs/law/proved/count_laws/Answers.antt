use Rattle.model.proofs.Counts.{count_laws}
use Rattle.model.proofs.law.proved.count_laws.Goals as goal

pub returns : goal.returns
returns c = count_laws
