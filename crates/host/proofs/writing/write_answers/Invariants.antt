use Rattle.std.proofs.Common.{◌≡◌}
use Rattle.admission.specs.Views.{bounds_of, offsets_of}
use Rattle.host.proofs.Bytes.{written}
use Rattle.host.proofs.writing.write_answers.Given as goal

abbrev pub invariant-loop-task : goal.invariant-loop-task
invariant-loop-task l = l.res ≡ written (bounds_of l.set) (offsets_of l.set) l.initial.res l.task
