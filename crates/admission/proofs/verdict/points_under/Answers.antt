use Rattle.std.proofs.Common.{sym, w32, SFits, rules, arith}
use Rattle.std.proofs.lemmas.Int.{to_z-of_z}
use Rattle.std.proofs.lemmas.List.FromFn.{map-range_with_len_more}
use Rattle.admission.proofs.verdict.points_under.Goals as goal

pub loop-task-preserved : goal.loop-task-preserved
loop-task-preserved g c =
    let fits : SFits w32 c.point.result = search rules in
    let (long, points) = c.loop-task.invariant in (
      omega (arith, c.push.ensures.len),
      rw (c.push.ensures.items, points, to_z-of_z w32 c.point.result fits, c.point.ensures.value)
          (sym (map-range_with_len_more (g.R.OrderRule.points c.args.rule.now) 0 c.loop-task.task c.loop-task.task (omega arith))),
    )
