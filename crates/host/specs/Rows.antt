-- The table as bytes: 8 for each task, C, S, D and T with 2 bytes each, low byte first.
use Rattle.std.specs.Prelude.{ℕ, ◌*◌, ◌/◌, List, map, length}
use Rattle.std.specs.List.{range_with_len}
use Rattle.model.specs.Bytes.{figures_at}
use Rattle.model.specs.declared.figures.Figures.{Figures}

-- The figures of task k.
abbrev pub row : List ℕ → ℕ → Figures
row bytes k = figures_at bytes (8 * k)

-- How many tasks the bytes have.
abbrev pub row_count : List ℕ → ℕ
row_count bytes = length bytes / 8

-- The tasks that the bytes describe, in their order.
abbrev pub rows : List ℕ → List Figures
rows bytes = map (row bytes) (range_with_len 0 (row_count bytes))
