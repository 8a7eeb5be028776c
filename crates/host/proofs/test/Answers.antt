use Rattle.std.proofs.Common.{length, refl}
use Rattle.admission.specs.Tested.{Tested}
use Rattle.model.specs.Verdict.{first_points}
use Rattle.rules.proofs.Chosen.{chosen, light}
use Rattle.tasks.specs.Listed.{listed}
use Rattle.host.proofs.test.Goals as goal

pub returns : goal.returns
returns c =
    let tasks = listed c.args.table.now in
    let middle = c.in_ok-middle.ensures.answer in
    let rule = c.in_ok-rule.ensures.answer in
    record {
      verdict = chosen
          (λ ts point _. Tested ts (first_points point (length ts)) c.args.place.now c.admit.new.place c.admit.result)
          c.args.choice tasks tasks _ _ c.new-bottom.result c.in_ok-middle.middle c.in_ok-rule.rule refl
          (light c.args.choice.execution c.requires.execution) (light c.args.choice.suspension c.requires.suspension)
          c.new-bottom.ensures.points middle.1 middle.2 rule.1 rule.2 c.admit.ensures.verdict;
    }
