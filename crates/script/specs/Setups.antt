-- What a script does outside of a run.
use Rattle.std.specs.Prelude.{List, [], Ok, Err, Result}
use Rattle.model.specs.Tables.{add}
use Rattle.model.specs.declared.figures.Figures.{Figures}
use Rattle.model.specs.declared.refusal.Refusal.{Refusal}
use Rattle.model.specs.declared.refusal.Refusal.TheVariants.{OutOfPlace}
use Rattle.rules.specs.Choices.{plain}
use Rattle.rules.specs.declared.choice.Choice.{Choice}
use Rattle.script.specs.declared.command.Command.{Command}
use Rattle.script.specs.declared.command.Command.TheVariants.{Task, Rule, Start, Call, Close}
use Rattle.script.specs.declared.setup.Entered.{Entered}
use Rattle.script.specs.declared.setup.Entered.TheVariants.{Stored, Starts}

-- What was entered so far: the tasks of the table, and the rule that was chosen last.
pub record Desk : Type 0 where
  pub tasks : List Figures
  pub choice : Choice

-- Before the first command: no task, and deadline with weights 0.
abbrev pub empty : Desk
empty = record { tasks = []; choice = plain }

-- What adding a task answers, as the answer of a command.
abbrev pub stored : {X : Type 0} → Result X Refusal → Result Entered Refusal
stored (Ok number) = Ok Stored
stored (Err why) = Err why

-- What a command answers outside of a run, and what stands then. A start changes nothing here; a call and a close are out
-- of place.
abbrev pub entered : Command → Desk → Result Entered Refusal × Desk
entered (Task f) d = (stored (add d.tasks f).0, record { tasks = (add d.tasks f).1; choice = d.choice })
entered (Rule choice) d = (Ok Stored, record { tasks = d.tasks; choice = choice })
entered Start d = (Ok Starts, d)
entered (Call call) d = (Err OutOfPlace, d)
entered Close d = (Err OutOfPlace, d)
