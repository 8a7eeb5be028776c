-- Figures as bytes, in scripts and for hosts in C.
use Rattle.std.specs.Prelude.{ℕ, ◌+◌, ◌*◌, List, slice_index}
use Rattle.model.specs.declared.figures.Figures.{Figures}

-- Two bytes at a place as a number, the low byte first.
abbrev pub two_bytes : List ℕ → ℕ → ℕ
two_bytes bytes at = slice_index bytes at + slice_index bytes (at + 1) * 256

-- The figures in 8 bytes from a place on: C, S, D and T, 2 bytes each.
abbrev pub figures_at : List ℕ → ℕ → Figures
figures_at bytes at =
    record {
      execution = two_bytes bytes at;
      suspension = two_bytes bytes (at + 2);
      deadline = two_bytes bytes (at + 4);
      period = two_bytes bytes (at + 6);
    }
