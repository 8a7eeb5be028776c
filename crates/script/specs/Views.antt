-- What the values of the code stand for.
use Rattle.std.specs.Prelude.{Bool, List, Result}
use Rattle.dispatch.specs.Runs.{set_tasks, state}
use Rattle.model.specs.declared.call.Call.{Call as RunCall}
use Rattle.model.specs.declared.job.JobId.{JobId}
use Rattle.model.specs.declared.refusal.Refusal.{Refusal}
use Rattle.record_log.specs.Records.{records, room}
use Rattle.record_log.specs.declared.Log.{Log}
use Rattle.tasks.specs.Listed.{listed}
use Rattle.script.specs.Sessions.{Books, called, commanded, settled}
use Rattle.script.specs.Setups.{Desk}
use Rattle.script.specs.declared.command.Command.{Command}
use Rattle.script.specs.declared.records.EndRecord.{EndRecord}
use Rattle.script.specs.declared.records.Stretch.{Stretch}
use Rattle.script.specs.declared.records.Turn.{Turn}
use Rattle.script.specs.declared.session.Recording.{Recording}
use Rattle.script.specs.declared.session.Session.{Session}
use Rattle.script.specs.declared.setup.Setup.{Setup}

-- What was entered.
abbrev pub desk : Setup → Desk
desk s = record { tasks = listed s.table; choice = s.choice }

-- What a session and its two logs hold.
abbrev pub books : {R : Type 0} → Session R → Log EndRecord → Log Stretch → Books
books s ends stretches =
    record { state = state s.run; ends = records ends; stretches = records stretches; row = s.row }

-- The same of a recording.
abbrev pub books_in : {R : Type 0} → Recording R → Books
books_in r = books r.session r.ends r.stretches

-- What a call and a command answer in a session with these logs under this order, and what they hold then.
module _ {R : Type 0} (before : JobId → JobId → Bool) (s : Session R) (ends : Log EndRecord) (stretches : Log Stretch) where
  abbrev pub call_in : RunCall → Result Turn Refusal × Books
  call_in call = called (room ends) (room stretches) (set_tasks s.run) before call (books s ends stretches)

  abbrev pub command_in : Command → Result Turn Refusal × Books
  command_in command = commanded (room ends) (room stretches) (set_tasks s.run) before command (books s ends stretches)

-- The run of a session stops: whether the row that goes on is lost, and the stretches then.
abbrev pub settled_in : {R : Type 0} → Session R → Log Stretch → Bool × List Stretch
settled_in s stretches = settled (room stretches) (records stretches) (state s.run).clock s.row
