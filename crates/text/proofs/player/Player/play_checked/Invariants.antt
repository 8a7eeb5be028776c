use Rattle.std.proofs.Common.{◌≡◌, ◌++◌, string_bytes}
use Rattle.admission.specs.Views.{tasks_of}
use Rattle.dispatch.specs.Runs.{of_rule, set_tasks}
use Rattle.script.specs.Commands.{items}
use Rattle.script.specs.Sessions.{opened}
use Rattle.script.specs.Views.{books_in}
use Rattle.text.specs.Lines.{printed}
use Rattle.text.specs.Playing.{left, told}
use Rattle.text.specs.Spoken.{inside}
use Rattle.text.proofs.player.Player.play_checked.Given as goal

-- The tasks and the order stay, and what is said with what is left to say stays the same.
abbrev pub invariant-loop-item : goal.invariant-loop-item
invariant-loop-item g l =
    record {
      tasks : set_tasks l.run.recording.session.run ≡ tasks_of l.fn.checked.set.now;
      rule : of_rule l.run.recording.session.run ≡ l.fn.checked.rule.now;
      said :
          told l.fn.self
          ++ printed (inside (tasks_of l.fn.checked.set.now) (g.R.OrderRule.before l.fn.checked.rule.now) opened (left l.fn.self))
          ≡ string_bytes l.text
          ++ printed (inside (tasks_of l.fn.checked.set.now) (g.R.OrderRule.before l.fn.checked.rule.now) (books_in l.run.recording)
          (items l.item-iterator.rest.now));
    }
