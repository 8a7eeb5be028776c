use Rattle.std.proofs.Common.{ap}
use Rattle.admission.specs.Views.{tasks_of}
use Rattle.dispatch.specs.Runs.{of_rule, set_tasks, state}
use Rattle.script.proofs.Naming.{named_as}
use Rattle.script.proofs.session.Session.call.Goals as goal

pub ended_by-requires : goal.ended_by-requires
ended_by-requires g c =
    let run = c.args.self.now.run in
    let rule = of_rule run in
    named_as (set_tasks c.call.new.self) (set_tasks run) (g.R.OrderRule.before rule) (state run) (g.R.OrderRule.points rule)
    (g.R.OrderRule.laws rule) c.args.call _ (ap tasks_of c.in_ok-answer.ensures.kept.0) c.in_ok-answer.ensures.answer
