use Rattle.std.proofs.Common.{◌||◌, ◌∙◌, ap₂}
use Rattle.model.specs.State.{is_open, job}
use Rattle.dispatch.proofs.Asked.{open_is, word_of}
use Rattle.dispatch.specs.Boards.{state_of, tasks_on}
use Rattle.dispatch.proofs.board.Board.open_word.Goals as goal

pub returns : goal.returns
returns c =
    let b = c.args.self.now in
    record {
      value = word_of (tasks_on b) (state_of b) b.bounded is_open (λ p h. h) c.union.result
          (λ i. c.union.ensures.bits i ∙ (ap₂ (λ x y. x || y) (b.ready_tasks i) (b.waiting_tasks i) ∙ open_is (job (state_of b) i).phase));
    }
