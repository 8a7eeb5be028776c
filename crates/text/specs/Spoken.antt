-- What a whole script says: its lines and its text.
use Rattle.std.specs.Prelude.{ℕ, suc, Bool, true, false, List, [], ◌∷◌, ◌++◌, map, length, Some, None, Ok, Err, Option, Result}
use Rattle.admission.specs.Verdicts.{Verdict}
use Rattle.model.specs.Verdict.{first_points}
use Rattle.model.specs.declared.figures.Figures.{Figures}
use Rattle.model.specs.declared.job.JobId.{JobId}
use Rattle.model.specs.declared.refusal.Refusal.{Refusal}
use Rattle.model.specs.declared.refusal.Refusal.TheVariants.{LogFull, NoWarrant}
use Rattle.rules.specs.Choices.{chosen_before, chosen_point}
use Rattle.script.specs.Commands.{Item, items}
use Rattle.script.specs.Sessions.{Books, commanded, opened, settled}
use Rattle.script.specs.Setups.{Desk, empty, entered}
use Rattle.script.specs.declared.records.EndRecord.{EndRecord}
use Rattle.script.specs.declared.records.Lost.{Lost}
use Rattle.script.specs.declared.records.Stretch.{Stretch}
use Rattle.script.specs.declared.records.Turn.{Turn}
use Rattle.script.specs.declared.records.Turn.TheVariants.{Made, Closes}
use Rattle.script.specs.declared.setup.Entered.{Entered}
use Rattle.script.specs.declared.setup.Entered.TheVariants.{Stored, Starts}
use Rattle.text.specs.Lines.{printed}
use Rattle.text.specs.declared.line.Line.{Line}
use Rattle.text.specs.declared.line.Line.TheVariants.{Refused, Bound, End, Run}

-- How many records each of the two logs has room for.
abbrev pub log_room : ℕ
log_room = 256

-- A record that is lost is a refusal, since its log is full.
abbrev pub loss : Bool → List Line
loss true = Refused LogFull ∷ []
loss false = []

-- The records that a call lost: an end first, then a row.
abbrev pub losses : Lost → List Line
losses lost = loss lost.end ++ loss lost.row

-- What the end of a run says: whether the last row is lost, then every end, then every stretch.
abbrev pub report_of : Bool → List EndRecord → List Stretch → List Line
report_of lost ends stretches = loss lost ++ (map End ends ++ map Run stretches)

-- The report of what a session holds.
abbrev pub report : Books → List Line
report b =
    report_of (settled log_room b.stretches b.state.clock b.row).0 b.ends (settled log_room b.stretches b.state.clock b.row).1

-- What the answer of a command in a run says, and what follows: the report, or the lines of later commands.
abbrev pub turn : Result Turn Refusal → List Line → List Line → List Line
turn (Ok (Made lost)) closing later = losses lost ++ later
turn (Ok Closes) closing later = closing
turn (Err why) closing later = Refused why ∷ later

-- Runs of these tasks under this order.
module _ (tasks : List Figures) (before : JobId → JobId → Bool) where
  -- What an item answers in a run, and what the session holds then; what is no command changes nothing.
  abbrev pub obeyed : Item → Books → Result Turn Refusal × Books
  obeyed (Ok command) b = commanded log_room log_room tasks before command b
  obeyed (Err why) b = (Err why, b)

  -- The lines of the items in a run. At the end of the script the run is closed.
  abbrev pub inside : Books → List Item → List Line
  inside b [] = report b
  inside b (item ∷ rest) = turn (obeyed item b).0 (report b) (inside (obeyed item b).1 rest)

-- The bound and the offset of each task, from a number on.
abbrev pub bound_lines : ℕ → List ℕ → List ℕ → List Line
bound_lines task [] offsets = []
bound_lines task (bound ∷ bounds) [] = []
bound_lines task (bound ∷ bounds) (offset ∷ offsets) = Bound task bound offset ∷ bound_lines (suc task) bounds offsets

-- What a start says by the verdict on the table, and what follows: the lines of the run, or those of later commands.
abbrev pub started : Option (List ℕ × List ℕ) → List Line → List Line → List Line
started (Some (bounds, offsets)) run later = bound_lines 0 bounds offsets ++ run
started None run later = Refused NoWarrant ∷ later

-- What an item answers outside of a run, and what was entered then.
abbrev pub heard : Item → Desk → Result Entered Refusal × Desk
heard (Ok command) d = entered command d
heard (Err why) d = (Err why, d)

-- What the answer of an item outside of a run says, and what follows: the start, or the lines of later commands.
abbrev pub entry : Result Entered Refusal → List Line → List Line → List Line
entry (Ok Stored) starting later = later
entry (Ok Starts) starting later = starting
entry (Err why) starting later = Refused why ∷ later

-- The lines of a run of the table under the rule that was chosen.
abbrev pub run_lines : Desk → List Item → List Line
run_lines d items = inside d.tasks (chosen_before d.choice d.tasks) opened items

module _ (verdict : Verdict) where
  -- The verdict on the table under the rule that was chosen.
  abbrev pub verdict_on : Desk → Option (List ℕ × List ℕ)
  verdict_on d = verdict d.tasks (first_points (chosen_point d.choice d.tasks) (length d.tasks))

  -- The lines of the items outside of a run.
  abbrev pub outside : Desk → List Item → List Line
  outside d [] = []
  outside d (item ∷ rest) =
      let d' : Desk = (heard item d).1 in
      entry (heard item d).0 (started (verdict_on d') (run_lines d' rest) (outside d' rest)) (outside d' rest)

  -- The text of a script.
  abbrev pub text : List ℕ → List ℕ
  text script = printed (outside empty (items script))
