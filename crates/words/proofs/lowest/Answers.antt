use Rattle.std.proofs.Common.{arith}
use Rattle.words.proofs.Changes.{trailing_lowest}
use Rattle.words.proofs.lowest.Goals as goal

pub returns-else-word-eq0 : goal.returns-else-word-eq0
returns-else-word-eq0 c =
    let lowest = trailing_lowest 32 c.args.word (omega arith) (omega arith) in
    record { inside = lowest.0; there = lowest.1; first = lowest.2 }
