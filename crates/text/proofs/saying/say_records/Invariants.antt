use Rattle.std.proofs.Common.{◌≡◌, ◌++◌, map, take, string_bytes}
use Rattle.text.specs.Lines.{printed}
use Rattle.text.specs.Playing.{Makes}
use Rattle.text.specs.declared.line.Line.{Line}
use Rattle.text.proofs.saying.say_records.Given as goal

abbrev pub invariant-loop-record : goal.invariant-loop-record
invariant-loop-record g l =
    (line : g.row.T.Denot → Line) → Makes g.T.Into.converts line
    → string_bytes l.text ≡ string_bytes l.initial.text ++ printed (map line (take l.record-index l.record-items))
