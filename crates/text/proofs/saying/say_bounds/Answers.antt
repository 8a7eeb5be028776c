use Rattle.std.proofs.Common.{string_bytes}
use Rattle.text.proofs.Printed.{said_bound}
use Rattle.text.proofs.saying.say_bounds.Goals as goal

pub loop-task-preserved : goal.loop-task-preserved
loop-task-preserved c =
    said_bound c.as_slice-row-items.result.now c.loop-task.task _ (string_bytes c.args.text.now) (string_bytes c.loop-task.text)
    (string_bytes c.say.new.text) c.loop-task-test.true c.loop-task.invariant c.in_ok-say.ensures.bytes
