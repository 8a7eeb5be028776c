use Rattle.std.proofs.Common.{◌≡◌, pos, neg_ℤ, ◌≤ℤ◌, refl}
use mathlib.Core.Path.{fun_ext}
use Rattle.model.specs.Figures.{most_tasks}
use Rattle.model.specs.Orders.{farthest}
use Rattle.rules.proofs.Stored.{each_of_zeros}
use Rattle.rules.proofs.points.Points.zero.Goals as goal

pub invariant_of-result : goal.invariant_of-result
invariant_of-result c =
    record {
      room = refl;
      low = each_of_zeros (λ z. neg_ℤ (pos farthest) ≤ℤ z) (record { le = tt }) most_tasks;
      high = each_of_zeros (λ z. z ≤ℤ pos farthest) (record { le = tt }) most_tasks;
    }

pub returns : goal.returns
returns c =
    let each = each_of_zeros (λ z. z ≡ pos 0) refl most_tasks in
    record { each = each; points = fun_ext each }
