-- The steps of a script, by what was said and what is left to say. No public contract cites this.
use Rattle.std.specs.Prelude.{◌≡◌, ℕ, Bool, false, cond, List, [], ◌∷◌, ◌++◌, length, ℤ, string_bytes}
use Rattle.admission.specs.Verdicts.{Right, Verdict}
use Rattle.model.specs.Verdict.{first_points}
use Rattle.model.specs.declared.figures.Figures.{Figures}
use Rattle.model.specs.declared.job.JobId.{JobId}
use Rattle.script.specs.Commands.{Item, items}
use Rattle.script.specs.Sessions.{Books, opened}
use Rattle.script.specs.Setups.{Desk}
use Rattle.text.specs.Lines.{printed}
use Rattle.text.specs.Spoken.{inside, outside, report, started}
use Rattle.text.specs.declared.line.Line.{Line}
use Rattle.text.specs.declared.player.Player.{Player}

-- A conversion into lines that is a function.
abbrev pub Makes : {T : Type 0} → (T → Line → Type 0) → (T → Line) → Type 0
Makes {T} converts line = (x : T) (l : Line) → converts x l → l ≡ line x

-- The text that a player has said, and the items that it has left to read.
abbrev pub told : Player → List ℕ
told p = string_bytes p.text

abbrev pub left : Player → List Item
left p = items p.reader.rest.now

-- A player says these lines.
abbrev pub Says : Player → Player → List Line → Type 0
Says p p' lines = told p' ≡ told p ++ printed lines

-- What was said and what is left to say after an item make up what the item and all that follows it say: the report if the
-- run is to be closed, else what follows.
abbrev pub Said : List Figures → (JobId → JobId → Bool) → Item → Books → Books → List ℕ → List ℕ → Bool → Type 0
Said tasks before item b b' text text' closes =
    (rest : List Item) →
    text ++ printed (inside tasks before b (item ∷ rest)) ≡ text' ++ printed (cond closes (report b') (inside tasks before b' rest))

-- After a start of these tasks under a rule with these points and this order: what was said and what is left to say make up
-- what the start and all that follows it say, whatever follows where no run is played; and then nothing was read.
pub record Tried (tasks : List Figures) (point : ℕ → ℤ) (before : JobId → JobId → Bool) (p p' : Player) (played : Bool) : Type 0 where
  pub said :
      (verdict : Verdict) → Right verdict → (later : List Line) →
      told p ++ printed (started (verdict tasks (first_points point (length tasks))) (inside tasks before opened (left p)) later)
      ≡ told p' ++ printed (cond played [] later)
  pub rest : played ≡ false → left p' ≡ left p

-- After an item outside of a run: what was said and what is left to say make up what the item and all that follows it say;
-- nothing is left to say where a run was played, and nothing was read where none was.
pub record Heard (item : Item) (d d' : Desk) (p p' : Player) (played : Bool) : Type 0 where
  pub said :
      (verdict : Verdict) → Right verdict →
      told p ++ printed (outside verdict d (item ∷ left p)) ≡ told p' ++ printed (cond played [] (outside verdict d' (left p)))
  pub rest : played ≡ false → left p' ≡ left p
