use Rattle.std.proofs.Common.{refl, arith}
use Rattle.admission.specs.Views.{tasks_of}
use Rattle.model.specs.State.{is_ready, is_waiting}
use Rattle.dispatch.proofs.Boards.{new_in_bounds, new_state, new_word}
use Rattle.dispatch.proofs.board.Board.new.Goals as goal

pub invariant_of-result : goal.invariant_of-result
invariant_of-result c = record {
  room = refl;
  in_time = omega arith;
  bounded = new_in_bounds (tasks_of c.args.set.now);
  ready_tasks = new_word is_ready refl;
  waiting_tasks = new_word is_waiting refl;
}

pub returns-clause-state : goal.returns-clause-state
returns-clause-state c = new_state
