-- The tasks that answers name. No public contract cites this.
use Rattle.std.specs.Prelude.{ℕ, ◌<◌, IfSome, Ok, Err, Result}
use Rattle.model.specs.declared.call.Answer.{Answer}
use Rattle.model.specs.declared.call.Answer.TheVariants.{Released, Waits, Woken, Finished, Passed}
use Rattle.model.specs.declared.refusal.Refusal.{Refusal}

-- Every task that an answer names as one that ran or ended is one of so many.
abbrev pub Named : ℕ → Result Answer Refusal → Type 0
Named many (Ok (Released clock)) = Unit {0}
Named many (Ok (Waits task)) = Unit {0}
Named many (Ok (Woken waited)) = Unit {0}
Named many (Ok (Finished e)) = e.task < many
Named many (Ok (Passed t)) = IfSome t.ran (λ task. task < many)
Named many (Err why) = Unit {0}
