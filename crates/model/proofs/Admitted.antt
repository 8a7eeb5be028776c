-- What the run law assumes of a set and its order.
use Rattle.std.proofs.Common.{◌≡◌, ℕ, ◌<◌, Bool, List, length, get_or, ℤ, pos}
use Rattle.model.specs.Figures.{Tasks}
use Rattle.model.specs.Orders.{Lawful}
use Rattle.model.specs.Test.{Warrant}
use Rattle.model.specs.declared.figures.Figures.{Figures}
use Rattle.model.specs.declared.job.JobId.{JobId}

pub record Admitted
    (tasks : List Figures) (points : List ℤ) (bounds : List ℕ) (point : ℕ → ℤ) (before : JobId → JobId → Bool) : Type 0 where
  pub allowed : Tasks tasks
  pub warrant : Warrant tasks points bounds
  pub lawful : Lawful point before
  pub points_are : (k : ℕ) → k < length tasks → point k ≡ get_or points k (pos 0)
