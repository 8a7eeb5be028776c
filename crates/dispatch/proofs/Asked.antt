-- The words that a board keeps, as the machine answers them.
use Rattle.std.proofs.Common.{◌≡◌, ℕ, Bool, true, false, ◌||◌, List, length, refl, ⊎_elim}
use Rattle.std.proofs.Math.Bool.{and-false}
use Rattle.std.proofs.lemmas.Bool.{cases_Bool, lt-ltb}
use Rattle.model.specs.State.{State, is_open, is_ready, is_waiting, job}
use Rattle.model.specs.Words.{word}
use Rattle.model.specs.declared.figures.Figures.{Figures}
use Rattle.model.specs.declared.job.Phase.{Phase}
use Rattle.model.specs.declared.job.Phase.TheVariants.{Closed, Ready, Waiting}
use Rattle.words.proofs.Words.{word_unique}
use Rattle.dispatch.proofs.Outside.{open_inside}
use Rattle.dispatch.specs.Sound.{AllInBounds, WordOf}

-- A word of phases that are open is the word of the tasks in them.
module _ (tasks : List Figures) (s : State) (sound : AllInBounds tasks s) (test : Phase → Bool) (opens : (p : Phase) → test p ≡ true
    → is_open p ≡ true) where
  pub word_of : (w : ℕ) → WordOf test s w → w ≡ word (length tasks) (λ i. test (job s i).phase)
  word_of w bits =
      word_unique (length tasks) w (λ i. test (job s i).phase)
      (λ i.
      ⊎_elim
      (λ (h : test (job s i).phase ≡ true).
      let inside = lt-ltb i (length tasks) (open_inside tasks s sound i (opens (job s i).phase h)) in simp (bits i, h, inside))
      (λ (h : test (job s i).phase ≡ false). simp (bits i, h, and-false))
      (cases_Bool (test (job s i).phase)))

-- A phase is open if it is ready or waiting.
pub open_is : (p : Phase) → (is_ready p || is_waiting p) ≡ is_open p
open_is Closed = refl
open_is Ready = refl
open_is Waiting = refl
