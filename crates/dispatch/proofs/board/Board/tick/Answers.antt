use Rattle.std.proofs.Common.{◌≡◌, false, eqb}
use Rattle.std.proofs.lemmas.Bool.{ne_eqb}
use Rattle.model.specs.Machine.{last_clock}
use Rattle.dispatch.proofs.Ticks.{forced_word, still_waits, ticked_state}
use Rattle.dispatch.specs.Boards.{state_of, tasks_on}
use Rattle.dispatch.proofs.board.Board.tick.Goals as goal

pub delay_all-forced-requires : goal.delay_all-forced-requires
delay_all-forced-requires g c =
    let b = c.args.self.now in
    record {
      waits = still_waits (tasks_on b) (state_of b) (state_of c.supply-ended.new.self) b.waiting c.processor-ran.result b.bounded
          b.waiting_tasks c.processor-ran.ensures.chosen c.supply-ended.ensures.state;
    }

pub returns-clause-answer : goal.returns-clause-answer
returns-clause-answer g c =
    let b = c.args.self.now in
    let ran = c.processor-ran.result in
    let granted : eqb b.clock last_clock ≡ false = ne_eqb b.clock last_clock c.if-self.false in
    let ended = c.supply-ended.ensures.answer in
    let forced =
    forced_word (tasks_on b) (state_of b) (state_of c.supply-ended.new.self) b.waiting ran b.bounded b.waiting_tasks
    c.processor-ran.ensures.chosen c.supply-ended.ensures.state c.delay_all-forced.result
    (rw c.supply-ended.ensures.set at c.delay_all-forced.ensures.answer) in
    rw (← c.processor-ran.ensures.value, granted) cc

pub returns-clause-state : goal.returns-clause-state
returns-clause-state g c =
    let b = c.args.self.now in
    let ran = c.processor-ran.result in
    let granted : eqb b.clock last_clock ≡ false = ne_eqb b.clock last_clock c.if-self.false in
    rw (← c.processor-ran.ensures.value, granted)
    (ticked_state (tasks_on b) (state_of b) (state_of c.supply-ended.new.self) b.waiting ran b.bounded b.waiting_tasks
    c.processor-ran.ensures.chosen c.supply-ended.ensures.state (state_of c.delay_all-forced.new.self)
    (rw c.supply-ended.ensures.set at c.delay_all-forced.ensures.state))
