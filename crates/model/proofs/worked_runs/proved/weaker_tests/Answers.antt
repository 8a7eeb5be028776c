use Rattle.std.proofs.Common.{refl}
use Rattle.model.proofs.WorkedRuns.{one_less_misled, rounded_down_misled, without_bound_misled, without_suspension_misled}
use Rattle.model.proofs.worked_runs.proved.weaker_tests.Goals as goal

pub returns : goal.returns
returns c =
    record {
      total = λ tasks points bounds k q. refl;
      suspension = without_suspension_misled;
      execution = one_less_misled;
      bound = without_bound_misled;
      rounding = rounded_down_misled;
    }
