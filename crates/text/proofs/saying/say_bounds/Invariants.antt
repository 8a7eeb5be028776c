use Rattle.std.proofs.Common.{◌≡◌, ◌++◌, take, string_bytes}
use Rattle.admission.specs.Held.{bounds_in, offsets_in}
use Rattle.text.specs.Lines.{printed}
use Rattle.text.specs.Spoken.{bound_lines}
use Rattle.text.proofs.saying.say_bounds.Given as goal

abbrev pub invariant-loop-task : goal.invariant-loop-task
invariant-loop-task l =
    string_bytes l.text
    ≡ string_bytes l.initial.text
    ++ printed (bound_lines 0 (bounds_in (take l.task l.row-items)) (offsets_in (take l.task l.row-items)))
