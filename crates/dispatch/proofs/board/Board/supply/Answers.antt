use Rattle.std.proofs.Common.{◌≡◌, true, ◌∙◌, rules}
use Rattle.model.specs.Machine.{ticked}
use Rattle.model.specs.State.{put}
use Rattle.dispatch.proofs.Ticks.{put_everywhere}
use Rattle.dispatch.specs.Boards.{figures_on, job_on, state_of}
use Rattle.dispatch.proofs.board.Board.supply.Goals as goal

pub returns-in-Some-clause-state : goal.returns-in-Some-clause-state
returns-in-Some-clause-state c =
    let b = c.args.self.now in
    let moved : state_of c.on.new.self ≡ put c.in-Some.task (ticked (figures_on b c.in-Some.task) true (job_on b c.in-Some.task)) (state_of b) = search rules in
    rw c.in-Some.is (moved ∙ put_everywhere c.in-Some.task (λ i. ticked (figures_on b i) true (job_on b i)) (state_of b))
