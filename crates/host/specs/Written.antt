-- The result as bytes: 4 for each task, its bound and its offset with 2 bytes each, low byte first.
use Rattle.std.specs.Prelude.{ℕ, ◌+◌, ◌/◌, ◌%◌, List, [], ◌∷◌, ◌++◌, slice_set}

-- A number of 16 bits.
abbrev pub two_bytes : ℕ → List ℕ
two_bytes n = n % 256 ∷ (n / 256 % 256 ∷ [])

-- Bytes with a number written at a place.
abbrev pub placed : List ℕ → ℕ → ℕ → List ℕ
placed bytes at n = slice_set (slice_set bytes at (n % 256)) (at + 1) (n / 256 % 256)

-- Bound and offset of one task after the other.
abbrev pub answer_bytes : List ℕ → List ℕ → List ℕ
answer_bytes [] offsets = []
answer_bytes (b ∷ bounds) [] = []
answer_bytes (b ∷ bounds) (q ∷ offsets) = two_bytes b ++ (two_bytes q ++ answer_bytes bounds offsets)
