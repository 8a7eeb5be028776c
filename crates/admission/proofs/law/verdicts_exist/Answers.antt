use Rattle.admission.proofs.Deciding.{a_verdict}
use Rattle.admission.proofs.law.verdicts_exist.Goals as goal

pub returns : goal.returns
returns c = a_verdict
