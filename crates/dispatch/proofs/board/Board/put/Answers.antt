use Rattle.std.proofs.Common.{arith}
use Rattle.dispatch.proofs.Boards.{set_state}
use Rattle.dispatch.proofs.board.Board.put.Goals as goal

pub returns-clause-state : goal.returns-clause-state
returns-clause-state c =
    let b = c.args.self.now in
    set_state b.clock b.jobs c.args.task c.args.job (omega arith)
