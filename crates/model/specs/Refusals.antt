-- The refusals: what each says, and the number that scripts and C hosts see.
use Rattle.std.specs.Prelude.{ℕ, List, ◌++◌, codes, decimal}
use Rattle.model.specs.declared.refusal.Refusal.{Refusal}
use Rattle.model.specs.declared.refusal.Refusal.TheVariants.{TableFull, NoExecution, DeadlineOutsidePeriod, NoWarrant, OtherPoints}
use Rattle.model.specs.declared.refusal.Refusal.TheVariants.{NoSuchTask, ReleasedTooSoon, NoReadyJob, SuspensionSpent, NotWaiting}
use Rattle.model.specs.declared.refusal.Refusal.TheVariants.{ClockAtEnd, LogFull, UnknownCommand, OperandsCutOff, RuleOutOfRange}
use Rattle.model.specs.declared.refusal.Refusal.TheVariants.{OutOfPlace, WrongLength}

-- The number of a refusal.
abbrev pub number : Refusal → ℕ
number TableFull = 1
number NoExecution = 2
number DeadlineOutsidePeriod = 3
number NoWarrant = 4
number OtherPoints = 5
number NoSuchTask = 6
number ReleasedTooSoon = 7
number NoReadyJob = 8
number SuspensionSpent = 9
number NotWaiting = 10
number ClockAtEnd = 11
number LogFull = 12
number UnknownCommand = 13
number OperandsCutOff = 14
number RuleOutOfRange = 15
number OutOfPlace = 16
number WrongLength = 17

-- What is wrong, in a few words of ASCII.
abbrev pub reason : Refusal → List ℕ
reason TableFull = codes "the table has 32 tasks"
reason NoExecution = codes "C is 0"
reason DeadlineOutsidePeriod = codes "D is 0 or above T"
reason NoWarrant = codes "no bounds hold"
reason OtherPoints = codes "the rule gives other points"
reason NoSuchTask = codes "no task has this number"
reason ReleasedTooSoon = codes "fewer than T ticks since the last release"
reason NoReadyJob = codes "no job is ready"
reason SuspensionSpent = codes "the job has waited S ticks"
reason NotWaiting = codes "the task has no waiting job"
reason ClockAtEnd = codes "the clock is at its end"
reason LogFull = codes "the log is full"
reason UnknownCommand = codes "unknown command"
reason OperandsCutOff = codes "operands are cut off"
reason RuleOutOfRange = codes "no such kind or weight of rule"
reason OutOfPlace = codes "the command is out of place"
reason WrongLength = codes "a buffer has the wrong length"

-- The text of a refusal: its number and what is wrong.
abbrev pub text : Refusal → List ℕ
text r = codes "refused " ++ (decimal (number r) ++ (codes ": " ++ reason r))
