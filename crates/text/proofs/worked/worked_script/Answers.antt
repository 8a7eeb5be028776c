use Rattle.text.proofs.WorkedScript.{worked_script_said}
use Rattle.text.proofs.worked.worked_script.Goals as goal

pub returns : goal.returns
returns c = worked_script_said
