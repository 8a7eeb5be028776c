use Rattle.std.proofs.Common.{◌≡◌, List, ◌++◌, IfOk, ap, ◌∙◌, subst}
use Rattle.admission.specs.Views.{bounds_of, offsets_of, tasks_of}
use Rattle.script.specs.Sessions.{opened}
use Rattle.text.specs.Lines.{printed}
use Rattle.text.specs.Playing.{left, told}
use Rattle.text.specs.Spoken.{bound_lines, inside}
use Rattle.text.specs.declared.line.Line.{Line}
use Rattle.text.proofs.Printed.{said_last}
use Rattle.text.proofs.player.Player.play_set.Goals as goal

pub returns : goal.returns
returns g c =
    let set = c.args.set.now in
    let rest = left c.args.self.now in
    let matched = c.in-Ok.ensures.answer in
    let text = told (record { reader = c.args.self.now.reader; text = c.say_bounds.new.text }) in
    let after = told c.play_checked.new.self in
    let run : inside (tasks_of c.in-Ok.checked.set.now) (g.R.OrderRule.before c.in-Ok.checked.rule.now) opened rest
    ≡ inside (tasks_of set) (g.R.OrderRule.before c.args.rule.now) opened rest =
    ap (λ s. inside (tasks_of s) (g.R.OrderRule.before c.in-Ok.checked.rule.now) opened rest) matched.1
    ∙ ap (λ o. inside (tasks_of set) (g.R.OrderRule.before o) opened rest) matched.2 in
    record {
      said = said_last c.play_checked.result (told c.args.self.now) text after (bound_lines 0 (bounds_of set) (offsets_of set))
          (inside (tasks_of set) (g.R.OrderRule.before c.args.rule.now) opened rest) c.in_ok-say_bounds.ensures.bytes
          (subst (λ (ls : List Line). IfOk c.play_checked.result (λ _. after ≡ text ++ printed ls)) run c.play_checked.ensures.said);
    }
