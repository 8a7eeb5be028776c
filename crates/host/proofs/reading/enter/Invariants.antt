use Rattle.tasks.specs.Listed.{listed}
use Rattle.host.specs.Rows.{rows}
use Rattle.host.proofs.Entering.{Front}
use Rattle.host.proofs.reading.enter.Given as goal

abbrev pub invariant-loop-row : goal.invariant-loop-row
invariant-loop-row l = Front (rows l.bytes) (listed l.table) l.row-index
