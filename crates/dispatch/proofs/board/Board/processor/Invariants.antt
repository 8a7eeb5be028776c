use Rattle.dispatch.proofs.Foremost.{Walked}
use Rattle.dispatch.specs.Boards.{state_of}
use Rattle.dispatch.proofs.board.Board.processor.Given as goal

abbrev pub invariant-loop-task : goal.invariant-loop-task
invariant-loop-task g l = Walked (g.R.OrderRule.before l.rule) (state_of l.self) l.self.ready l.task-iterator.rest l.best
