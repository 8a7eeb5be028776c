-- The stretches and the row that goes on are the ticks of the reading.
use Rattle.std.proofs.Common.{◌≡◌, ℕ, ◌+◌, ◌-◌, ◌<◌, ◌≤◌, Bool, true, false, cond, List, [], ◌∷◌, ◌++◌, reverse, length, replicate, Some, None, Option, sym, refl, ap, ◌∙◌, subst, append_assoc, append-nil, arith, length-append, Ok, Err, Result}
use mathlib.Core.List.{reverse-cons}
use Rattle.std.proofs.lemmas.List.{length-replicate, length-reverse, replicate_more}
use Rattle.std.proofs.lemmas.Bool.{eqb-true, false≢true}
use Rattle.std.specs.Option.{option_map}
use Rattle.model.specs.Reading.{Reading, now}
use Rattle.model.specs.declared.call.Answer.{Answer}
use Rattle.model.specs.declared.call.Answer.TheVariants.{Released, Waits, Woken, Finished, Passed}
use Rattle.model.specs.declared.refusal.Refusal.{Refusal}
use Rattle.script.specs.RecordLaw.{Adjoin, Differ, StretchesAre, written_out}
use Rattle.script.specs.Sessions.{alike, going, rows, stopped, stretch}
use Rattle.script.specs.declared.records.Row.{Row}
use Rattle.script.specs.declared.records.Stretch.{Stretch}
use Rattle.script.proofs.Noted.{listed, ticks_after}

alike_same : (a b : Option ℕ) → alike a b ≡ true → a ≡ b
alike_same None None e = refl
alike_same None (Some b) e = absurd (false≢true e)
alike_same (Some a) None e = absurd (false≢true e)
alike_same (Some a) (Some b) e = ap Some (eqb-true a b e)

-- What one stretch more does to the ticks, to the places and to the neighbours.
written_more : (ss : List Stretch) (s : Stretch) → written_out (ss ++ s ∷ []) ≡ written_out ss ++ replicate s.ticks s.task
written_more [] s = append-nil (replicate s.ticks s.task)
written_more (x ∷ xs) s = rw (written_more xs s) (sym (append_assoc (replicate x.ticks x.task) (written_out xs) _))

adjoin_more : (clock : ℕ) (ss : List Stretch) (s : Stretch) → Adjoin clock ss → s.first ≡ clock + length (written_out ss)
    → 1 ≤ s.ticks → Adjoin clock (ss ++ s ∷ [])
adjoin_more clock [] s all place some = (omega arith, some, tt)
adjoin_more clock (x ∷ xs) s (first, has, all) place some =
    let parts = length-append (replicate x.ticks x.task) (written_out xs) in
    let own = length-replicate x.ticks x.task in
    (first, has, adjoin_more (clock + x.ticks) xs s all (omega arith) some)

differ_more : (ss : List Stretch) (s t : Stretch) → Differ (ss ++ s ∷ []) → alike s.task t.task ≡ false
    → Differ ((ss ++ s ∷ []) ++ t ∷ [])
differ_more [] s t all apart = (apart, tt)
differ_more (x ∷ []) s t (here, all) apart = (here, differ_more [] s t all apart)
differ_more (x ∷ (y ∷ ys)) s t (here, all) apart = (here, differ_more (y ∷ ys) s t all apart)

-- What StretchesAre says of the stretches, with a row that goes on behind them.
pub record Ongoing (ticks : List (Option ℕ)) (ss : List Stretch) (row : Row) : Type 0 where
  begun : row.first < length ticks
  exactly : written_out ss ++ replicate (length ticks - row.first) row.task ≡ reverse ticks
  in_place : Adjoin 0 ss
  longest : (s : Stretch) → s.task ≡ row.task → Differ (ss ++ s ∷ [])

-- Before the first tick there is neither a stretch nor a row.
abbrev pub Going : List (Option ℕ) → List Stretch → Option Row → Type 0
Going ticks ss None = (ticks ≡ []) × (ss ≡ [])
Going ticks ss (Some row) = Ongoing ticks ss row

-- The row that goes on is the last stretch.
pub settles : (r : Reading) (ss : List Stretch) (row : Option Row) → Going r.ticks ss row
    → StretchesAre r (ss ++ listed (option_map (stretch (now r)) row))
settles r ss None (no_ticks, nothing) = record { exactly = rw (no_ticks, nothing); in_place = rw nothing tt; longest = rw nothing tt }
settles r ss (Some row) on =
    record {
      exactly = written_more ss (stretch (now r) row) ∙ on.exactly;
      in_place = adjoin_more 0 ss (stretch (now r) row) on.in_place place (omega (arith, on.begun));
      longest = on.longest (stretch (now r) row) refl;
    }
  where
    place : row.first ≡ 0 + length (written_out ss)
    place =
        let parts = length-append (written_out ss) (replicate (now r - row.first) row.task) in
        let own = length-replicate (now r - row.first) row.task in
        omega (arith, ap length on.exactly, length-reverse r.ticks, on.begun)

-- A tick more of a task behind its last ones.
tick_more : (xs ticks : List (Option ℕ)) (ran : Option ℕ) (m n : ℕ) → n ≡ m + 1 → xs ++ replicate m ran ≡ reverse ticks
    → xs ++ replicate n ran ≡ reverse (ran ∷ ticks)
tick_more xs ticks ran m n more was =
    rw (more, ← replicate_more m ran, ← append_assoc xs (replicate m ran) (ran ∷ []), was) (sym (reverse-cons ran ticks))

module _ (r : Reading) (ss : List Stretch) where
  -- A tick begins a row behind the stretches, if it is not given to the task of the last one.
  begins : (ran : Option ℕ) → StretchesAre r ss → ((s : Stretch) → s.task ≡ ran → Differ (ss ++ s ∷ []))
      → Ongoing (ran ∷ r.ticks) ss (record { task = ran; first = now r })
  begins ran are apart =
      record {
        begun = omega arith;
        exactly = tick_more (written_out ss) r.ticks ran 0 _ (omega arith) (append-nil (written_out ss) ∙ are.exactly);
        in_place = are.in_place;
        longest = apart;
      }

  -- A tick that is given to the task of the row makes the row longer.
  goes_on : (row : Row) → Ongoing r.ticks ss row → Ongoing (row.task ∷ r.ticks) ss row
  goes_on row on =
      record {
        begun = omega (arith, on.begun);
        exactly = tick_more (written_out ss) r.ticks row.task (now r - row.first) _ (omega (arith, on.begun)) on.exactly;
        in_place = on.in_place;
        longest = on.longest;
      }

-- What a call with this answer does to the stretches and the row: only ticks do anything.
module _ (r : Reading) (ss : List Stretch) where
  passes : (row : Option Row) (ran : Option ℕ) → Going r.ticks ss row
      → Going (ran ∷ r.ticks) (ss ++ listed (stopped (now r) ran row)) (Some (going (now r) ran row))
  passes None ran (no_ticks, nothing) = begins r (ss ++ []) ran (settles r ss None (no_ticks, nothing)) (λ s _. rw nothing tt)
  passes (Some row) ran on = go (alike row.task ran) refl
    where
      go : (b : Bool) → alike row.task ran ≡ b
          → Ongoing (ran ∷ r.ticks) (ss ++ listed (cond b None (Some (stretch (now r) row))))
          (cond b row (record { task = ran; first = now r }))
      go true e =
          subst (λ t. Ongoing (t ∷ r.ticks) (ss ++ []) row) (alike_same row.task ran e) (rw (append-nil ss) (goes_on r ss row on))
      go false e =
          let last : Stretch = stretch (now r) row in
          begins r (ss ++ last ∷ []) ran (settles r ss (Some row) on)
          (λ s its. differ_more ss last s (on.longest last refl) (ap (alike row.task) its ∙ e))

  rests : (row : Option Row) → Going r.ticks ss row → Going r.ticks (ss ++ []) row
  rests row on = subst (λ xs. Going r.ticks xs row) (sym (append-nil ss)) on

  pub rows_go : (row : Option Row) (answer : Result Answer Refusal) → Going r.ticks ss row
      → Going (ticks_after answer r.ticks) (ss ++ listed (rows (now r) answer row).0) (rows (now r) answer row).1
  rows_go row (Ok (Released clock)) on = rests row on
  rows_go row (Ok (Waits task)) on = rests row on
  rows_go row (Ok (Woken waited)) on = rests row on
  rows_go row (Ok (Finished e)) on = rests row on
  rows_go row (Ok (Passed t)) on = passes row t.ran on
  rows_go row (Err why) on = rests row on
