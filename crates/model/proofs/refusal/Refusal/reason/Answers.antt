use Rattle.std.proofs.Common.{sym, ap}
use Rattle.model.specs.Refusals.{reason}
use Rattle.model.proofs.refusal.Refusal.reason.Goals as goal

pub returns-in-OtherPoints : goal.returns-in-OtherPoints
returns-in-OtherPoints c = record { value = ap reason (sym c.in-OtherPoints.is) }

pub returns-in-NoReadyJob : goal.returns-in-NoReadyJob
returns-in-NoReadyJob c = record { value = ap reason (sym c.in-NoReadyJob.is) }

pub returns-in-ClockAtEnd : goal.returns-in-ClockAtEnd
returns-in-ClockAtEnd c = record { value = ap reason (sym c.in-ClockAtEnd.is) }

pub returns-in-UnknownCommand : goal.returns-in-UnknownCommand
returns-in-UnknownCommand c = record { value = ap reason (sym c.in-UnknownCommand.is) }

pub returns-in-OutOfPlace : goal.returns-in-OutOfPlace
returns-in-OutOfPlace c = record { value = ap reason (sym c.in-OutOfPlace.is) }

pub returns-in-WrongLength : goal.returns-in-WrongLength
returns-in-WrongLength c = record { value = ap reason (sym c.in-WrongLength.is) }
