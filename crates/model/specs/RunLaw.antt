-- The law of every run.
use Rattle.std.specs.Prelude.{◌≡◌, ℕ, ◌<◌, Bool, List, length, ℤ, pos, slice_index_or}
use Rattle.std.specs.List.{zip}
use Rattle.model.specs.Figures.{Tasks}
use Rattle.model.specs.Machine.{answers}
use Rattle.model.specs.Orders.{Lawful}
use Rattle.model.specs.Promises.{Promises}
use Rattle.model.specs.Reading.{Reading, reading}
use Rattle.model.specs.State.{start}
use Rattle.model.specs.Test.{Warrant}
use Rattle.model.specs.declared.call.Call.{Call}
use Rattle.model.specs.declared.figures.Figures.{Figures}
use Rattle.model.specs.declared.job.JobId.{JobId}

-- Something holds of every run: whatever the tasks, the points, the bounds that are a warrant for them, the lawful order
-- with these points, and the list of calls from the start, it holds of what the calls and the machine's answers show.
abbrev pub EveryRun : (List Figures → List ℕ → Reading → Type 0) → Type 0
EveryRun Promise =
    (tasks : List Figures) (points : List ℤ) (bounds : List ℕ) → Tasks tasks → Warrant tasks points bounds →
    (point : ℕ → ℤ) (before : JobId → JobId → Bool) → Lawful point before →
    ((k : ℕ) → k < length tasks → point k ≡ slice_index_or points k (pos 0)) →
    (calls : List Call) → Promise tasks bounds (reading (zip calls (answers tasks before start calls)))

-- The run law: every run keeps the promises.
abbrev pub RunLaw : Type 0
RunLaw = EveryRun Promises
