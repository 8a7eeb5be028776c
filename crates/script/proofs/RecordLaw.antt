-- The law of records, by induction over the calls.
use Rattle.std.proofs.Common.{◌≡◌, ℕ, Bool, false, List, [], ◌∷◌, ◌++◌, ℤ, sym, refl, ap, ◌∙◌, subst, Ok, Err, Result}
use Rattle.std.specs.Option.{option_map}
use Rattle.std.specs.List.{zip}
use Rattle.model.proofs.Admitted.{Admitted}
use Rattle.model.proofs.Kept.{Kept, begins}
use Rattle.model.proofs.Steps.{step_kept}
use Rattle.model.specs.Machine.{answers, step}
use Rattle.model.specs.Reading.{Reading, blank, read, read_on}
use Rattle.model.specs.State.{State}
use Rattle.model.specs.declared.call.Answer.{Answer}
use Rattle.model.specs.declared.call.Call.{Call}
use Rattle.model.specs.declared.figures.Figures.{Figures}
use Rattle.model.specs.declared.job.JobId.{JobId}
use Rattle.model.specs.declared.refusal.Refusal.{Refusal}
use Rattle.script.specs.RecordLaw.{EndsAre, RecordLaw, StretchesAre, Throughout, books_after, end_kept, row_kept}
use Rattle.script.specs.Sessions.{Books, called, ended_by, lost, noted, opened, outcome, rows, settled, stretch}
use Rattle.script.specs.declared.records.Stretch.{Stretch}
use Rattle.script.proofs.Ends.{Recorded, ends_go}
use Rattle.script.proofs.Noted.{listed, noted_all, ticks_after, ticks_read}
use Rattle.script.proofs.Stretches.{Going, rows_go, settles}

-- A refusal loses no record, and a granted call that lost none says so.
nothing_lost : (end_room row_room : ℕ) (b : Books) (answer : Result Answer Refusal) (after : State)
    → (end_kept (outcome answer (lost end_room row_room b answer after)) → (lost end_room row_room b answer after).end ≡ false)
    × (row_kept (outcome answer (lost end_room row_room b answer after)) → (lost end_room row_room b answer after).row ≡ false)
nothing_lost end_room row_room b (Ok answer) after = (λ e. e, λ e. e)
nothing_lost end_room row_room b (Err why) after = (λ _. refl, λ _. refl)

module _ {tasks : List Figures} {points : List ℤ} {bounds : List ℕ} {point : ℕ → ℤ} {before : JobId → JobId → Bool}
    (set : Admitted tasks points bounds point before) (end_room row_room : ℕ) where
  -- The reading of more calls.
  abbrev on : Reading → State → List Call → Reading
  on r s calls = read_on r (zip calls (answers tasks before s calls))

  ends_run : (calls : List Call) (b : Books) (r : Reading) → Kept tasks bounds point b.state r → Recorded r b.ends
      → Throughout end_room row_room tasks before end_kept b calls
      → EndsAre (on r b.state calls) (books_after end_room row_room tasks before b calls).ends
  ends_run [] b r kept recorded all = recorded.ends_are
  ends_run (c ∷ calls) b r kept recorded (here, all) =
      let (answer, after) = step tasks before c b.state in
      let kept' = step_kept set kept c in
      let all_Noted = noted_all end_room b.ends (ended_by answer after) ((nothing_lost end_room row_room b answer after).0 here) in
      ends_run calls (called end_room row_room tasks before c b).1 (read c answer r) kept'
      (subst (Recorded (read c answer r)) (sym all_Noted) (ends_go kept c answer kept' recorded)) all

  -- The stretches with the row that goes on, and whether that one is lost.
  abbrev closing : Books → Bool × List Stretch
  closing b = settled row_room b.stretches b.state.clock b.row

  rows_run : (calls : List Call) (b : Books) (r : Reading) → Kept tasks bounds point b.state r
      → Going r.ticks b.stretches b.row → Throughout end_room row_room tasks before row_kept b calls
      → (closing (books_after end_room row_room tasks before b calls)).0 ≡ false
      → StretchesAre (on r b.state calls) (closing (books_after end_room row_room tasks before b calls)).1
  rows_run [] b r kept going all last =
      let row_last = noted_all row_room b.stretches (option_map (stretch b.state.clock) b.row) last in
      let are = settles r b.stretches b.row going in
      subst (StretchesAre r)
      (ap (λ clock. b.stretches ++ listed (option_map (stretch clock) b.row)) kept.clock ∙ sym row_last) are
  rows_run (c ∷ calls) b r kept going (here, all) last =
      let (answer, after) = step tasks before c b.state in
      let (stops, goes) = rows b.state.clock answer b.row in
      let all_Noted = noted_all row_room b.stretches stops ((nothing_lost end_room row_room b answer after).1 here) in
      let at_clock = subst
      (λ n. Going (ticks_after answer r.ticks) (b.stretches ++ listed (rows n answer b.row).0) (rows n answer b.row).1)
      kept.clock (rows_go r b.stretches b.row answer going) in
      let next : Going (read c answer r).ticks (noted row_room b.stretches stops).1 goes =
      rw (ticks_read c answer r, all_Noted) at_clock in
      rows_run calls (called end_room row_room tasks before c b).1 (read c answer r) (step_kept set kept c) next all last

pub record_law : RecordLaw
record_law tasks points bounds allowed warrant point before lawful points_are end_room row_room calls = (
  ends_run set end_room row_room calls opened blank begins
      (record { ends_are = record { exactly = λ _. refl; in_order = tt }; past = tt }),
  rows_run set end_room row_room calls opened blank begins (refl, refl),
)
  where
    set : Admitted tasks points bounds point before
    set = record { allowed = allowed; warrant = warrant; lawful = lawful; points_are = points_are }
