use Rattle.model.proofs.RunLaw.{run_law}
use Rattle.model.proofs.law.proved.run_law.Goals as goal

pub returns : goal.returns
returns c = run_law
