-- What is not a law of every run: a little more than the run law says. A worked run refutes each.
use Rattle.std.specs.Prelude.{ℕ, suc, pred, ◌+◌, ◌-◌, ◌*◌, ◌<◌, ◌≤◌, List, length, take, drop, pos, slice_index, slice_index_or}
use Rattle.std.specs.List.{AllByRecursion}
use Rattle.model.specs.Figures.{no_task}
use Rattle.model.specs.Promises.{Responds, given_to}
use Rattle.model.specs.Reading.{Reading, now}
use Rattle.model.specs.RunLaw.{EveryRun}
use Rattle.model.specs.Test.{periods}
use Rattle.model.specs.declared.figures.Figures.{Figures}

-- Open jobs are younger than the bound by one tick more.
abbrev pub Younger : List Figures → List ℕ → Reading → Type 0
Younger tasks bounds r =
    (k : ℕ) → k < length tasks → AllByRecursion (λ j. Responds (slice_index bounds k) (suc (now r)) j.release j.fate) (r.jobs k)

-- That this holds of every run.
abbrev pub YoungerLaw : Type 0
YoungerLaw = EveryRun Younger

-- A window holds the ticks of one job less.
abbrev pub Fewer : List Figures → List ℕ → Reading → Type 0
Fewer tasks bounds r =
    (k : ℕ) → k < length tasks → (later long : ℕ) → 1 ≤ long →
    given_to k (take long (drop later r.ticks))
    ≤ (slice_index_or tasks k no_task).execution * pred (periods (pos ((long + slice_index bounds k) - 1)) (slice_index_or tasks k no_task).period)

-- That this holds of every run.
abbrev pub FewerLaw : Type 0
FewerLaw = EveryRun Fewer
