-- What stays true of every task in a run, at a number of granted ticks with their history, and what follows from it.
use Rattle.std.proofs.Common.{◌≡◌, ℕ, ◌+◌, ◌<◌, ◌≤◌, Bool, true, false, List, [], ◌∷◌, length, get_or, ℤ, Some, None, Option, unwrap_or, refl, arith}
use Rattle.std.proofs.ByRecursion.{All-weaker}
use Rattle.std.proofs.lemmas.Bool.{false≢true}
use Rattle.std.specs.List.{AllByRecursion}
use Rattle.model.specs.Figures.{no_task}
use Rattle.model.specs.Promises.{Responds, Supplied}
use Rattle.model.specs.Reading.{Observed, Fate, still_open, by_tick, by_finish}
use Rattle.model.specs.State.{is_open, no_job}
use Rattle.model.specs.declared.figures.Figures.{Figures}
use Rattle.model.specs.declared.job.Job.{Job}
use Rattle.model.proofs.Books.{Agrees, Matches, Settled, Young, by_books}
use Rattle.model.proofs.Progress.{Progress}
use Rattle.model.proofs.Spacing.{Gaps}
use Rattle.model.proofs.Supply.{History, Supply, releases}

-- The figures and the bound of a task.
abbrev pub figures : List Figures → ℕ → Figures
figures tasks i = get_or tasks i no_task

abbrev pub bound : List ℕ → ℕ → ℕ
bound bounds i = get_or bounds i 0

pub record Sound
    (tasks : List Figures) (bounds : List ℕ) (point : ℕ → ℤ) (now : ℕ) (h : History) (i : ℕ)
    (o : Option Job) (js : List Observed) : Type 0 where
  pub agrees : Agrees (figures tasks i) (bound bounds i) now o js
  pub spaced : Gaps (figures tasks i).period (releases js)
  pub progress : Progress (length tasks) point now h i (unwrap_or o no_job)
  pub supply : Supply (bound bounds i) now h i js

module _ {tasks : List Figures} {bounds : List ℕ} {point : ℕ → ℤ} {now : ℕ} {h : History} {i : ℕ} {o : Option Job} {js : List Observed}
    (sound : Sound tasks bounds point now h i o js) where
  abbrev Ended : Observed → Type 0
  Ended = Settled (figures tasks i) (bound bounds i)

  from_books : (P : Option Job → List Observed → Type 0) → P None []
      → ((j : Job) (k : Observed) (ks : List Observed) → Matches (figures tasks i) (bound bounds i) now j k → AllByRecursion Ended ks
      → P (Some j) (k ∷ ks))
      → P o js
  from_books P never latest = by_books (figures tasks i) (bound bounds i) P never latest o js sound.agrees

  pub latest_past : (unwrap_or o no_job).release ≤ now
  latest_past = from_books (λ o js. (unwrap_or o no_job).release ≤ now) (omega arith) (λ j k ks m all. m.past)

  pub open_counts : is_open (unwrap_or o no_job).phase ≡ true
      → ((unwrap_or o no_job).given < (figures tasks i).execution) × ((unwrap_or o no_job).waited ≤ (figures tasks i).suspension)
  open_counts =
      from_books
      (λ o js. is_open (unwrap_or o no_job).phase ≡ true
      → ((unwrap_or o no_job).given < (figures tasks i).execution) × ((unwrap_or o no_job).waited ≤ (figures tasks i).suspension))
      (λ e. absurd (false≢true e)) (λ j k ks m all e. (omega (arith, m.given, (m.opened e).1), m.waited))

  pub all_ended : is_open (unwrap_or o no_job).phase ≡ false → AllByRecursion Ended js
  all_ended =
      from_books (λ o js. is_open (unwrap_or o no_job).phase ≡ false → AllByRecursion Ended js) (λ _. tt) (λ j k ks m all e. (m.closed e, all))

  -- What is promised of every job.
  pub all_respond : Young (bound bounds i) now (unwrap_or o no_job) → AllByRecursion (λ k. Responds (bound bounds i) now k.release k.fate) js
  all_respond =
      from_books
      (λ o js. Young (bound bounds i) now (unwrap_or o no_job) → AllByRecursion (λ k. Responds (bound bounds i) now k.release k.fate) js)
      (λ _. tt)
      (λ j k ks m all young. (here j k m young (is_open j.phase) refl, All-weaker _ _ (λ y ended. ended.responds now) ks all))
    where
      here : (j : Job) (k : Observed) → Matches (figures tasks i) (bound bounds i) now j k → Young (bound bounds i) now j
          → (b : Bool) → is_open j.phase ≡ b → Responds (bound bounds i) now k.release k.fate
      here j k m young true e = rw (m.opened e).0 (omega (arith, m.release, m.past, young e))
      here j k m young false e = (m.closed e).responds now

  abbrev Exact : Observed → Type 0
  Exact k = Supplied (figures tasks i).execution k.release k.given k.fate

  pub all_supplied : AllByRecursion Exact js
  all_supplied =
      from_books (λ o js. AllByRecursion Exact js) tt
      (λ j k ks m all. (here j k m (is_open j.phase) refl, All-weaker _ _ (λ y ended. ended.supplied) ks all))
    where
      here : (j : Job) (k : Observed) → Matches (figures tasks i) (bound bounds i) now j k → (b : Bool) → is_open j.phase ≡ b → Exact k
      here j k m true e = rw (m.opened e).0 (m.opened e).1
      here j k m false e = (m.closed e).supplied

  pub given_most : AllByRecursion (λ k. k.given ≤ (figures tasks i).execution) js
  given_most = All-weaker _ _ (λ k exact. most (figures tasks i).execution k.release k.given k.fate exact) js all_supplied
    where
      most : (execution release given : ℕ) (fate : Fate) → Supplied execution release given fate → given ≤ execution
      most execution release given still_open exact = omega arith
      most execution release given (by_tick end) exact = omega arith
      most execution release given (by_finish end answered) exact = omega arith

  pub all_before : (limit : ℕ) → (unwrap_or o no_job).release < limit → AllByRecursion (λ k. k.release < limit) js
  all_before limit =
      from_books
      (λ o js. Gaps (figures tasks i).period (releases js) → (unwrap_or o no_job).release < limit → AllByRecursion (λ k. k.release < limit) js)
      (λ _ _. tt) (λ j k ks m all gaps past. (omega (arith, m.release), below k ks (omega (arith, m.release)) gaps.0))
      sound.spaced
    where
      below : (k : Observed) (ks : List Observed) → k.release < limit
          → AllByRecursion (λ x. x + (figures tasks i).period ≤ k.release) (releases ks) → AllByRecursion (λ y. y.release < limit) ks
      below k [] past far = tt
      below k (y ∷ ys) past far = (omega (arith, far.0), below k ys past far.1)

pub never_released : {tasks : List Figures} {bounds : List ℕ} {point : ℕ → ℤ} {now : ℕ} {h : History} {i : ℕ} (js : List Observed)
    → Sound tasks bounds point now h i None js → js ≡ []
never_released [] sound = refl
never_released (k ∷ ks) sound = absurd sound.agrees
