-- What a table holds.
use Rattle.std.specs.Prelude.{List}
use Rattle.model.specs.declared.figures.Figures.{Figures}
use Rattle.tasks.specs.declared.table.Table.{Table}

-- The tasks of a table, in the order of adding.
abbrev pub listed : Table → List Figures
listed t = t.tasks.items
