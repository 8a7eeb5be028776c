-- What the loops of the makers fill in.
use Rattle.std.proofs.Common.{◌≡◌, ℕ, suc, ◌<◌, List, length, get_or, ℤ, pos, ◌+ℤ◌, ◌*ℤ◌, ap, arith}
use Rattle.model.specs.Figures.{most_tasks, no_task}
use Rattle.model.specs.Rules.{capped, deadline}
use Rattle.model.specs.Sums.{sum_to}
use Rattle.model.specs.declared.figures.Figures.{Figures}
use Rattle.tasks.specs.Listed.{listed}
use Rattle.tasks.specs.declared.table.Table.{Table}

-- D of every task.
abbrev pub deadlines : List Figures → ℕ → ℤ
deadlines tasks k = pos (deadline tasks k)

-- A task of a table has a number below the most.
pub few : (t : Table) (tasks : List Figures) (i : ℕ) → tasks ≡ listed t → i < length tasks → i < most_tasks
few t tasks i e h = omega (arith, ap length e, t.fit.0)

-- D of every task and of all lower-numbered ones.
abbrev pub levels : List Figures → ℕ → ℤ
levels tasks k = pos (sum_to (suc k) (deadline tasks))

-- The points of a layer over other points.
abbrev pub weights : (Figures → ℕ) → ℤ → (ℕ → ℤ) → List Figures → ℕ → ℤ
weights figure weight below tasks k = capped (below k +ℤ (weight *ℤ pos (figure (get_or tasks k no_task))))
