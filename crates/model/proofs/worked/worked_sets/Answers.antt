use Rattle.model.proofs.WorkedSets.{worked}
use Rattle.model.proofs.worked.worked_sets.Goals as goal

pub returns : goal.returns
returns c = record { answers = worked }
