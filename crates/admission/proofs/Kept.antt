-- The bounds of an accepted set are a warrant.
use Rattle.std.proofs.Common.{ℕ, List, get_or, ℤ, refl, arith}
use Rattle.std.proofs.lemmas.List.{length-map}
use Rattle.model.specs.Test.{Warrant}
use Rattle.model.specs.Verdict.{Admits}
use Rattle.model.specs.declared.figures.Figures.{Figures}
use Rattle.admission.specs.Held.{OneEach, AllShown}
use Rattle.admission.specs.Views.{tasks_of, points_of, bounds_of, offsets_of}
use Rattle.admission.specs.declared.accepted.Accepted.{Accepted}

pub one_each : (s : Accepted) → OneEach (tasks_of s) (points_of s) (bounds_of s) (offsets_of s)
one_each s = simp length-map (refl, refl, refl)

pub warrant : (tasks : List Figures) (points : List ℤ) (bounds offsets : List ℕ)
    → OneEach tasks points bounds offsets → AllShown tasks points bounds offsets → Warrant tasks points bounds
warrant tasks points bounds offsets each shown =
    record {
      one_each = each.1;
      positive = λ k h. (shown k h).0;
      in_time = λ k h. (shown k h).1;
      covered = λ k h. (get_or offsets k 0, (shown k h).2, (shown k h).3);
    }

-- Bounds that the test answers are shown to hold.
pub all_shown : (tasks : List Figures) (points : List ℤ) (bounds offsets : List ℕ) → Admits tasks points bounds offsets
    → AllShown tasks points bounds offsets
all_shown tasks points bounds offsets a k h =
    let w = a.smallest.warrant in
    (w.positive k h, w.in_time k h, (a.first k h).inside, omega (arith, (a.first k h).attains))
