-- The figure that a layer weighs.
use Rattle.std.specs.Prelude.{ℕ}
use Rattle.model.specs.declared.figures.Figures.{Figures}
use Rattle.rules.specs.declared.weighted.Figure.{Figure}
use Rattle.rules.specs.declared.weighted.Figure.TheVariants.{Execution, Suspension}

-- C or S.
abbrev pub figure_of : Figure → Figures → ℕ
figure_of Execution f = f.execution
figure_of Suspension f = f.suspension
