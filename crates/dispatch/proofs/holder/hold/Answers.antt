use Rattle.std.proofs.Common.{◌≡◌, ◌∙◌}
use Rattle.dispatch.proofs.Held.{made}
use Rattle.dispatch.specs.Runs.{of_rule, of_set, state}
use Rattle.dispatch.proofs.holder.hold.Goals as goal

pub returns : goal.returns
returns g c =
    let run = c.start-run.result in
    let matched = c.in_ok-checked.ensures.answer in
    let same_set : of_set run ≡ c.args.set.now = c.start-run.ensures.set ∙ matched.1 in
    let same_rule : of_rule run ≡ c.args.rule.now = c.start-run.ensures.rule ∙ matched.2 in
    record {
      outcome = (
        matched.0,
        made c.args.set.now (g.R.OrderRule.points c.args.rule.now) (g.R.OrderRule.before c.args.rule.now)
            (g.R.OrderRule.laws c.args.rule.now) matched.0 c.run_law.ensures
            c.args.entries.now c.make_all.new.entries c.close.result (state c.make_all.new.run)
            (rw (same_set, same_rule, c.start-run.ensures.state) at c.make_all.ensures.entries)
            (rw (same_set, same_rule, c.start-run.ensures.state) at c.make_all.ensures.state)
            c.close.ensures.clock
            (rw (c.make_all.ensures.kept.0 ∙ same_set) at c.close.ensures.«open»),
      );
    }
