use Rattle.model.specs.State.{is_ready}
use Rattle.dispatch.proofs.Asked.{word_of}
use Rattle.dispatch.proofs.Outside.{ready_opens}
use Rattle.dispatch.specs.Boards.{state_of, tasks_on}
use Rattle.dispatch.proofs.board.Board.ready.Goals as goal

pub returns : goal.returns
returns c =
    let b = c.args.self.now in
    record { value = word_of (tasks_on b) (state_of b) b.bounded is_ready ready_opens b.ready b.ready_tasks }
