use Rattle.std.proofs.Common.{◌≡◌, arith, w32, to_z, of_z}
use Rattle.std.proofs.lemmas.Int.{ints}
use Rattle.rules.proofs.Filled.{filled_more}
use Rattle.rules.proofs.Made.{weights, few}
use Rattle.rules.specs.Figure.{figure_of}
use Rattle.rules.proofs.weighted.Weighted.points.Goals as goal

pub loop-i-preserved : goal.loop-i-preserved
loop-i-preserved g c =
    let added : to_z w32 (of_z w32 c.product-added.result) ≡ c.product-added.result = omega (arith, ints) in
    let point : to_z w32 (of_z w32 c.point.result) ≡ c.point.result = omega (arith, ints) in
    let sum : to_z w32 (of_z w32 c.sum.result) ≡ c.sum.result = omega (arith, ints) in
    let put : to_z w32 (of_z w32 c.stopped.result) ≡ c.stopped.result = omega (arith, ints) in
    let points = weights (figure_of c.args.figure) (to_z w32 (of_z w32 c.args.weight)) (g.R.OrderRule.points
    c.args.below.now) c.as_slice-tasks.result.now in
    filled_more c.loop-i.points c.put.new.self c.loop-i.i points (to_z w32 (of_z w32 c.stopped.result))
    c.put.ensures.state
    (few c.args.table.now c.as_slice-tasks.result.now c.loop-i.i c.as_slice-tasks.ensures.value c.loop-i-test.true)
    (cc (c.stopped.ensures.value, c.sum.ensures.value, c.point.ensures.value, c.product-added.ensures.value, c.of.ensures.value)) c.loop-i.invariant
