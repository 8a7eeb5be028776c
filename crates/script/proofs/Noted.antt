-- What a call that loses no record adds to the logs, and what it adds to the ticks of the reading.
use Rattle.std.proofs.Common.{◌≡◌, ℕ, ◌≤◌, false, List, [], ◌∷◌, ◌++◌, length, Some, None, Option, sym, refl, append-nil, le_refl, arith, Ok, Err, Result}
use Rattle.model.specs.Reading.{Reading, now, read, with_supply}
use Rattle.model.specs.declared.call.Answer.{Answer}
use Rattle.model.specs.declared.call.Answer.TheVariants.{Released, Waits, Woken, Finished, Passed}
use Rattle.model.specs.declared.call.Call.{Call}
use Rattle.model.specs.declared.call.Call.TheVariants.{Release, Wait, Wake, Finish, Tick}
use Rattle.model.specs.declared.refusal.Refusal.{Refusal}
use Rattle.script.specs.Sessions.{noted}

-- A record, if there is one, as a list.
abbrev pub listed : {T : Type 0} → Option T → List T
listed None = []
listed (Some x) = x ∷ []

-- A record that is not lost stands at the end.
pub noted_all : {T : Type 0} (room : ℕ) (xs : List T) (o : Option T) → (noted room xs o).0 ≡ false → (noted room xs o).1 ≡ xs ++ listed o
noted_all room xs None e = sym (append-nil xs)
noted_all room xs (Some x) e = rw e

-- The ticks, newest first, after a call with this answer: the reading has these, and never fewer than before.
abbrev pub ticks_after : Result Answer Refusal → List (Option ℕ) → List (Option ℕ)
ticks_after (Ok (Released clock)) ticks = ticks
ticks_after (Ok (Waits task)) ticks = ticks
ticks_after (Ok (Woken waited)) ticks = ticks
ticks_after (Ok (Finished e)) ticks = ticks
ticks_after (Ok (Passed t)) ticks = t.ran ∷ ticks
ticks_after (Err why) ticks = ticks

pub ticks_read : (c : Call) (answer : Result Answer Refusal) (r : Reading) → (read c answer r).ticks ≡ ticks_after answer r.ticks
ticks_read (Release task) (Ok (Released clock)) r = refl
ticks_read Wait (Ok (Released clock)) r = refl
ticks_read (Wake task) (Ok (Released clock)) r = refl
ticks_read Finish (Ok (Released clock)) r = refl
ticks_read Tick (Ok (Released clock)) r = refl
ticks_read c (Ok (Waits task)) r = refl
ticks_read c (Ok (Woken waited)) r = refl
ticks_read c (Ok (Finished e)) r = refl
ticks_read c (Ok (Passed t)) r = supplied t.ran
  where
    supplied : (ran : Option ℕ)
        → (with_supply ran t.ended (record { ticks = t.ran ∷ r.ticks; jobs = r.jobs; whole = r.whole })).ticks ≡ t.ran ∷ r.ticks
    supplied None = refl
    supplied (Some task) = refl
ticks_read c (Err why) r = refl

pub ticks_grow : (c : Call) (answer : Result Answer Refusal) (r : Reading) → now r ≤ now (read c answer r)
ticks_grow c answer r = rw (ticks_read c answer r) (go answer)
  where
    go : (answer : Result Answer Refusal) → now r ≤ length (ticks_after answer r.ticks)
    go (Ok (Released clock)) = le_refl (now r)
    go (Ok (Waits task)) = le_refl (now r)
    go (Ok (Woken waited)) = le_refl (now r)
    go (Ok (Finished e)) = le_refl (now r)
    go (Ok (Passed t)) = omega arith
    go (Err why) = le_refl (now r)
