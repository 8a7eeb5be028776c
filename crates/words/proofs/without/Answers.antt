use Rattle.std.proofs.Common.{sym, ◌∙◌, arith}
use Rattle.words.proofs.Changes.{has_inside, taken_off}
use Rattle.words.proofs.without.Goals as goal

pub overflow_shl-result : goal.overflow_shl-result
overflow_shl-result c = has_inside c.args.word c.args.k (omega arith) (sym c.contains.ensures ∙ c.if-contains.true)

pub returns-then-contains-clause-bits : goal.returns-then-contains-clause-bits
returns-then-contains-clause-bits c =
    taken_off c.args.word c.args.k (omega arith) (sym c.contains.ensures ∙ c.if-contains.true)
