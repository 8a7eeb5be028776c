-- What stays true of a run, the state against the reading of its transcript so far, and the promises that follow.
use Rattle.std.proofs.Common.{◌≡◌, ℕ, zero, suc, ◌+◌, ◌-◌, ◌*◌, ◌<◌, ◌≤◌, Bool, true, List, [], map, length, take, drop, ℤ, pos, None, refl, subst, le_refl, arith}
use Rattle.std.proofs.lemmas.Bool.{false≢true}
use Rattle.std.specs.Option.{option_map}
use Rattle.model.specs.Promises.{Promises, given_to}
use Rattle.model.specs.Reading.{Reading, blank, now}
use Rattle.model.specs.State.{State, start, job}
use Rattle.model.specs.Test.{periods}
use Rattle.model.specs.declared.figures.Figures.{Figures}
use Rattle.model.proofs.Books.{Young}
use Rattle.model.proofs.Sound.{Sound, bound, figures, all_respond, all_supplied, never_released}
use Rattle.model.proofs.Supply.{History, tally}

-- The most ticks of a window that a task is given.
abbrev pub most : List Figures → List ℕ → ℕ → ℕ → ℕ
most tasks bounds k long = (figures tasks k).execution * periods (pos ((long + bound bounds k) - 1)) (figures tasks k).period

pub record Kept (tasks : List Figures) (bounds : List ℕ) (point : ℕ → ℤ) (s : State) (r : Reading) : Type 0 where
  pub history : History
  pub shown : r.ticks ≡ map (option_map (λ a. a.task)) history
  pub clock : now r ≡ s.clock
  pub sound : (i : ℕ) → Sound tasks bounds point (now r) history i (s.latest i) (r.jobs i)
  pub young : (i : ℕ) → Young (bound bounds i) (now r) (job s i)
  pub whole : r.whole ≡ true
  pub outside : (i : ℕ) → length tasks ≤ i → s.latest i ≡ None
  pub window : (k : ℕ) → k < length tasks → (later long : ℕ) → 1 ≤ long
      → given_to k (take long (drop later r.ticks)) ≤ most tasks bounds k long

module _ {tasks : List Figures} {bounds : List ℕ} {point : ℕ → ℤ} where
  pub promises : {s : State} {r : Reading} → Kept tasks bounds point s r → Promises tasks bounds r
  promises {s} {r} kept =
      record {
        whole = kept.whole;
        of_the_set = λ k out.
            never_released (r.jobs k)
            (subst (λ o. Sound tasks bounds point (now r) kept.history k o (r.jobs k)) (kept.outside k out) (kept.sound k));
        response = λ k _. all_respond (kept.sound k) (kept.young k);
        supply = λ k _. all_supplied (kept.sound k);
        window = kept.window;
      }

  pub begins : Kept tasks bounds point start blank
  begins =
      record {
        history = [];
        shown = refl;
        clock = refl;
        sound = λ i. record { agrees = tt; spaced = tt; progress = λ e. absurd (false≢true e); supply = nothing i };
        young = λ i e. absurd (false≢true e);
        whole = refl;
        outside = λ i _. refl;
        window = λ k _ later long _. none k later long;
      }
    where
      nothing : (i : ℕ) (p : ℕ → Bool) (w : ℕ) → tally i p (take w []) ≤ 0
      nothing i p zero = le_refl 0
      nothing i p (suc w) = le_refl 0

      none : (k later long : ℕ) → given_to k (take long (drop later [])) ≤ most tasks bounds k long
      none k zero zero = omega arith
      none k zero (suc long) = omega arith
      none k (suc later) zero = omega arith
      none k (suc later) (suc long) = omega arith
