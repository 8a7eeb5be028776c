-- What is used of the count of another task's jobs; nothing else about it matters to the argument for the bounds.
use Rattle.std.specs.Prelude.{◌≡◌, ℕ, suc, ◌*◌, ◌≤◌, ℤ, pos, ◌+ℤ◌, ◌-ℤ◌, ◌≤ℤ◌}
use Rattle.model.specs.Test.{count}

-- The laws of the count: it is 0 where the difference of points, the other's bound and the offset leave nothing; it rises
-- with the other's bound; it falls as the offset grows; and if c periods and one tick more fit into what they leave, it is
-- above c.
pub record CountLaws : Type 0 where
  pub none : (own other : ℤ) (bound period offset : ℕ) → 1 ≤ period →
      (((own -ℤ other) +ℤ pos bound) -ℤ pos offset) ≤ℤ pos 0 → count own other bound period offset ≡ 0
  pub rises : (own other : ℤ) (lower upper period offset : ℕ) → lower ≤ upper →
      count own other lower period offset ≤ count own other upper period offset
  pub falls : (own other : ℤ) (bound period sooner later : ℕ) → sooner ≤ later →
      count own other bound period later ≤ count own other bound period sooner
  pub spaced : (own other : ℤ) (bound period offset c : ℕ) → 1 ≤ period →
      pos (suc (c * period)) ≤ℤ (((own -ℤ other) +ℤ pos bound) -ℤ pos offset) → suc c ≤ count own other bound period offset
