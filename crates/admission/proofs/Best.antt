-- The best total so far of a search over offsets.
use Rattle.std.proofs.Common.{◌≡◌, ℕ, ◌+◌, ◌<◌, ◌≤◌, List, get_or, ℤ}
use Rattle.model.specs.Figures.{no_task}
use Rattle.model.specs.Test.{total}
use Rattle.model.specs.declared.figures.Figures.{Figures}

module _ (tasks : List Figures) (points : List ℤ) (bounds : List ℕ) (k : ℕ) where
  -- Of the offsets below `seen`, the best total is at `at`; or all pass the deadline, and the best is one more than that.
  pub record Best (seen best at : ℕ) : Type 0 where
    pub cut : best ≤ (get_or tasks k no_task).deadline + 1
    pub least : (q : ℕ) → q < seen → best ≤ total tasks points bounds k q
    pub found : best ≤ (get_or tasks k no_task).deadline
        → (at < seen) × (total tasks points bounds k at ≡ best) × ((q : ℕ) → q < at → best < total tasks points bounds k q)
