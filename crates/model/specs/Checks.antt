-- How a call refuses: by checks in a fixed order, and with no effect.
use Rattle.std.specs.Prelude.{ℕ, Bool, cond, List, [], ◌∷◌, Ok, Err, Result, nat_le}
use Rattle.model.specs.declared.refusal.Refusal.{Refusal}
use Rattle.model.specs.declared.refusal.Refusal.TheVariants.{NoSuchTask}

-- The checks of a call, in their order: each refusal with the test that says exactly when it comes.
abbrev pub Checks : Type 0
Checks = List (Bool × Refusal)

-- A call on a state: the first check whose test holds refuses, and leaves the state as it stood; else the call is
-- granted, with its answer and the state that it leaves.
abbrev pub call : {A S : Type 0} → Checks → S → A → S → Result A Refusal × S
call [] before answer after = (Ok answer, after)
call (c ∷ cs) before answer after = cond c.0 (Err c.1, before) (call cs before answer after)

-- A question, which has no effect: the first check whose test holds refuses, else the answer is given.
abbrev pub question : {A : Type 0} → Checks → A → Result A Refusal
question [] answer = Ok answer
question (c ∷ cs) answer = cond c.0 (Err c.1) (question cs answer)

-- A question about one of so many tasks: a number outside is refused.
abbrev pub of_task : {A : Type 0} → ℕ → ℕ → A → Result A Refusal
of_task many task answer = question ((nat_le many task, NoSuchTask) ∷ []) answer
