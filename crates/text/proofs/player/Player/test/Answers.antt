use Rattle.std.proofs.Common.{refl}
use Rattle.tasks.specs.Listed.{listed}
use Rattle.text.proofs.Starts.{agrees, tried_no, tried_yes}
use Rattle.text.proofs.player.Player.test.Goals as goal

pub play_set-requires : goal.play_set-requires
play_set-requires g c = record {
  agree = agrees (listed c.args.table.now) (g.R.OrderRule.points c.args.rule.now) c.admit.new.place
      c.in-Ok.ensures.verdict;
}

pub returns-in_ok-play_set-in-Ok : goal.returns-in_ok-play_set-in-Ok
returns-in_ok-play_set-in-Ok g c =
    let rule = c.args.rule.now in
    record {
      tried = tried_yes (listed c.args.table.now) (g.R.OrderRule.points rule) c.args.table.now.fit
          (g.R.OrderRule.before rule) _ _ c.admit.new.place c.in-Ok.ensures.verdict c.in_ok-play_set-in-Ok.ensures.said;
    }

pub returns-in_ok-say-in-Err : goal.returns-in_ok-say-in-Err
returns-in_ok-say-in-Err g c =
    let rule = c.args.rule.now in
    record {
      tried = tried_no (listed c.args.table.now) (g.R.OrderRule.points rule) c.args.table.now.fit
          (g.R.OrderRule.before rule) _ _ c.new-set.result c.admit.new.place c.in-Err.refusal c.in-Err.ensures.verdict
          c.in_ok-say-in-Err.ensures.bytes refl;
    }
