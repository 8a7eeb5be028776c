use Rattle.std.proofs.Common.{sym, ◌∙◌}
use Rattle.std.proofs.Math.Bool.{and-false, and-true, or-false}
use Rattle.dispatch.proofs.Delays.{delaying_more}
use Rattle.dispatch.specs.Boards.{state_of}
use Rattle.dispatch.proofs.board.Board.delay_all.Goals as goal

pub loop-task-preserved-then-delay : goal.loop-task-preserved-then-delay
loop-task-preserved-then-delay c =
    let (bit, cleared) = c.in-Some.ensures.steps in
    let (d, same) = c.loop-task.invariant in
    let late = sym (rw same at c.delay.ensures.answer) ∙ c.if-delay.true in (
      delaying_more d c.in-Some.task bit.there (state_of c.delay.new.self) c.next.new.self.rest c.with-forced.result
          (rw same at c.delay.ensures.state) cleared (λ i. simp (late, and-true) (c.with-forced.ensures.bits bit.inside i)),
      c.delay.ensures.set ∙ same,
    )

pub loop-task-preserved : goal.loop-task-preserved
loop-task-preserved c =
    let (bit, cleared) = c.in-Some.ensures.steps in
    let (d, same) = c.loop-task.invariant in
    let late = sym (rw same at c.delay.ensures.answer) ∙ c.if-delay.false in (
      delaying_more d c.in-Some.task bit.there (state_of c.delay.new.self) c.next.new.self.rest c.loop-task.forced
          (rw same at c.delay.ensures.state) cleared (λ i. simp (late, and-false, or-false)),
      c.delay.ensures.set ∙ same,
    )
