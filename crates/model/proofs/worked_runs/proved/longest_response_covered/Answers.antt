use Rattle.model.proofs.WorkedRuns.{longest_response_covered}
use Rattle.model.proofs.worked_runs.proved.longest_response_covered.Goals as goal

pub returns : goal.returns
returns c = longest_response_covered
