use Rattle.std.proofs.Common.{sym, ◌∙◌, arith}
use Rattle.std.proofs.lemmas.Bool.{le-ltb}
use Rattle.words.proofs.Digits.{has_small}
use Rattle.words.proofs.contains.Goals as goal

pub returns-else-k-lt32 : goal.returns-else-k-lt32
returns-else-k-lt32 c = le-ltb c.args.k 32 (omega arith) ∙ sym (has_small c.args.word c.args.k (omega arith) (omega arith))
