use Rattle.script.proofs.law.record_law.Goals as goal
use Rattle.script.proofs.RecordLaw.{record_law}

pub returns : goal.returns
returns c = record_law
