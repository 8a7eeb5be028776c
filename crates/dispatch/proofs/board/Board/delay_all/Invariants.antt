use Rattle.std.proofs.Common.{◌≡◌}
use Rattle.dispatch.proofs.Delays.{Delaying}
use Rattle.dispatch.specs.Boards.{set_of, state_of, tasks_on}
use Rattle.dispatch.proofs.board.Board.delay_all.Given as goal

abbrev pub invariant-loop-task : goal.invariant-loop-task
invariant-loop-task l =
    Delaying (tasks_on l.initial.self) (state_of l.initial.self) (state_of l.self) l.waiting l.task-iterator.rest l.forced
    × (set_of l.self ≡ set_of l.initial.self)
