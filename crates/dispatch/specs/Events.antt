-- What an event makes of a job.
use Rattle.std.specs.Prelude.{ℕ, ◌+◌, Bool, true, cond, nat_eq, nat_lt}
use Rattle.model.specs.State.{in_phase}
use Rattle.model.specs.declared.figures.Figures.{Figures}
use Rattle.model.specs.declared.job.Job.{Job}
use Rattle.model.specs.declared.job.Phase.{Phase}
use Rattle.model.specs.declared.job.Phase.TheVariants.{Closed, Ready, Waiting}
use Rattle.dispatch.specs.declared.event.Event.{Event}
use Rattle.dispatch.specs.declared.event.Event.TheVariants.{Suspend, Wake, Finish, Tick}

-- A ready job that was given one tick more: it ends if that makes C.
abbrev pub supplied : ℕ → Job → Job
supplied execution j = record {
  release = j.release;
  phase = cond (nat_eq
      (j.given + 1) execution) Closed Ready;
  given = j.given + 1;
  waited = j.waited;
}

-- A waiting job that has waited one tick more: it becomes ready if that makes S.
abbrev pub delayed : ℕ → Job → Job
delayed suspension j = record {
  release = j.release;
  phase = cond (nat_eq
      (j.waited + 1) suspension) Ready Waiting;
  given = j.given;
  waited = j.waited + 1;
}

-- What an event makes of a job, by its phase.
abbrev pub moved_in : Phase → Figures → Event → Job → Job
moved_in Closed f e j = j
moved_in Ready f Suspend j = in_phase Waiting j
moved_in Ready f Wake j = j
moved_in Ready f Finish j = in_phase Closed j
moved_in Ready f Tick j = supplied f.execution j
moved_in Waiting f Suspend j = j
moved_in Waiting f Wake j = in_phase Ready j
moved_in Waiting f Finish j = j
moved_in Waiting f Tick j = delayed f.suspension j

abbrev pub moved : Figures → Event → Job → Job
moved f e j = moved_in j.phase f e j

-- The job has room for the event: a ready job for a tick, a waiting job for a tick of waiting.
abbrev pub bears_in : Phase → Figures → Event → Job → Bool
bears_in Closed f e j = true
bears_in Ready f e j = nat_lt j.given f.execution
bears_in Waiting f e j = nat_lt j.waited f.suspension

abbrev pub bears : Figures → Event → Job → Bool
bears f e j = bears_in j.phase f e j
