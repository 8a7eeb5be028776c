use Rattle.model.proofs.WorkedRuns.{not_fewer, not_younger}
use Rattle.model.proofs.law.proved.tighter_laws.Goals as goal

pub returns : goal.returns
returns c = record { younger = not_younger; fewer = not_fewer }
