-- Rows that are made one by one from tasks, points and what the search has found.
use Rattle.std.proofs.Common.{◌≡◌, ℕ, ◌+◌, List, ◌++◌, map, length, ℤ, Iter, None, ap, inl, inr, arith, length-append}
use Rattle.std.proofs.lemmas.Iterator.{zips}
use Rattle.std.proofs.lemmas.Fn.{fronts}
use Rattle.std.proofs.lemmas.List.{append-nil, length-map, nil_from_length}
use Rattle.std.specs.Iterator.Adapters.{zip_first, zip_second}
use Rattle.std.specs.Slice.Iter.{iter_rest}
use Rattle.std.specs.declared.iter.Zip.{Zip}
use Rattle.model.specs.declared.figures.Figures.{Figures}
use Rattle.admission.specs.Held.{bounds_in, figures_in, offsets_in, points_in}
use Rattle.admission.specs.declared.accepted.Admitted.{Admitted}

module _ {A X : Type 0} (f : A → X) where
  -- As many entries are left as rows are to come.
  column_long : (rows : List A) (rest whole : List X) → map f rows ++ rest ≡ whole → length rows + length rest ≡ length whole
  column_long rows rest whole so_far =
      let long : length (map f rows ++ rest) ≡ length whole = ap length so_far in
      omega (arith, length-append (map f rows) rest, length-map rows f)

  -- No entry is left.
  column_all : (rows : List A) (rest whole : List X) → map f rows ++ rest ≡ whole → length rows ≡ length whole → map f rows ≡ whole
  column_all rows rest whole so_far all =
      let empty = nil_from_length rest (omega (arith, column_long rows rest whole so_far)) in
      let none = append-nil (map f rows) in
      cc

module _ (tasks : List Figures) (points : List ℤ) (found : List (ℕ × ℕ)) where
  -- The entries of the rows, and those that are left.
  pub record Filling (rows : List Admitted) (left : Zip (Zip (Iter Figures) (Iter ℤ)) (Iter (ℕ × ℕ))) : Type 0 where
    pub its_tasks : figures_in rows ++ iter_rest (zip_first (zip_first left)) ≡ tasks
    pub its_points : points_in rows ++ iter_rest (zip_second (zip_first left)) ≡ points
    pub its_bounds : bounds_in rows ++ map (λ p. p.0) (iter_rest (zip_second left)) ≡ map (λ p. p.0) found
    pub its_offsets : offsets_in rows ++ map (λ p. p.1) (iter_rest (zip_second left)) ≡ map (λ p. p.1) found

  -- The rows have all entries.
  pub record Filled (rows : List Admitted) : Type 0 where
    pub its_tasks : figures_in rows ≡ tasks
    pub its_points : points_in rows ≡ points
    pub its_bounds : bounds_in rows ≡ map (λ p. p.0) found
    pub its_offsets : offsets_in rows ≡ map (λ p. p.1) found

  pub filled : (rows : List Admitted) (left after : Zip (Zip (Iter Figures) (Iter ℤ)) (Iter (ℕ × ℕ))) → Filling rows left
      → length points ≡ length tasks → length found ≡ length tasks → zips (zips fronts fronts) fronts left None after → Filled rows
  filled rows left after f one_point one_pair none =
      let pairs = length-map found (λ p. p.0) in
      let others = length-map found (λ p. p.1) in
      let last = length-map (iter_rest (zip_second left)) (λ p. p.0) in
      let long = column_long (λ a. a.figures) rows _ _ f.its_tasks in
      let points_long = column_long (λ a. a.point) rows _ _ f.its_points in
      let bounds_long = column_long (λ a. a.bound) rows _ _ f.its_bounds in
      let all : length rows ≡ length tasks =
      elim none [
        | inl (u, inl (t, empty)) ↦ omega (arith, long, empty.0)
        | inl (u, inr (t, empty)) ↦ omega (arith, points_long, empty.0)
        | inr (t, empty) ↦ omega (arith, bounds_long, empty.0)
      ] in
      record {
        its_tasks = column_all (λ a. a.figures) rows _ _ f.its_tasks all;
        its_points = column_all (λ a. a.point) rows _ _ f.its_points (omega arith);
        its_bounds = column_all (λ a. a.bound) rows _ _ f.its_bounds (omega arith);
        its_offsets = column_all (λ a. a.offset) rows _ _ f.its_offsets (omega arith);
      }
