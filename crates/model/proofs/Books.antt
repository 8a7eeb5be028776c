-- The books of a run: how the state of a task and the jobs that a reading shows of it agree.
use Rattle.std.proofs.Common.{◌≡◌, ℕ, suc, ◌+◌, ◌<◌, ◌≤◌, true, false, ◌||◌, List, [], ◌∷◌, Some, None, Option, sym, refl, ap, ◌∙◌, arith}
use Rattle.std.proofs.lemmas.Bool.{both_ways}
use Rattle.std.specs.List.{AllByRecursion}
use Rattle.model.specs.Promises.{Responds, Supplied}
use Rattle.model.specs.Reading.{Observed, still_open, undecided, any_open, on_earliest}
use Rattle.model.specs.State.{is_open, is_waiting}
use Rattle.model.specs.declared.figures.Figures.{Figures}
use Rattle.model.specs.declared.job.Job.{Job}

-- A job that has ended, in time and with what it was to be given.
pub record Settled (f : Figures) (bound : ℕ) (k : Observed) : Type 0 where
  pub decided : undecided k.fate ≡ false
  pub responds : (ticks : ℕ) → Responds bound ticks k.release k.fate
  pub supplied : Supplied f.execution k.release k.given k.fate

-- The latest job of a task in the state and in the reading.
pub record Matches (f : Figures) (bound now : ℕ) (j : Job) (k : Observed) : Type 0 where
  pub release : k.release ≡ j.release
  pub given : k.given ≡ j.given
  pub past : j.release ≤ now
  pub waited : j.waited ≤ f.suspension
  pub closed : is_open j.phase ≡ false → Settled f bound k
  pub opened : is_open j.phase ≡ true → (k.fate ≡ still_open) × (k.given < f.execution)
  pub suspended : is_waiting j.phase ≡ true → j.waited < f.suspension

-- The latest jobs match, and all jobs before it have ended.
abbrev pub Agrees : Figures → ℕ → ℕ → Option Job → List Observed → Type 0
Agrees f bound now None [] = Unit {0}
Agrees f bound now None (k ∷ ks) = ⊥
Agrees f bound now (Some j) [] = ⊥
Agrees f bound now (Some j) (k ∷ ks) = Matches f bound now j k × AllByRecursion (Settled f bound) ks

-- An open job is younger than the bound.
abbrev pub Young : ℕ → ℕ → Job → Type 0
Young bound now j = is_open j.phase ≡ true → now < j.release + bound

module _ (f : Figures) (bound : ℕ) where
  -- A task that was never released has no jobs, and any other has a latest one.
  pub by_books : (P : Option Job → List Observed → Type 0) {now : ℕ} → P None []
      → ((j : Job) (k : Observed) (ks : List Observed) → Matches f bound now j k → AllByRecursion (Settled f bound) ks → P (Some j) (k ∷ ks))
      → (o : Option Job) (js : List Observed) → Agrees f bound now o js → P o js
  by_books P never latest None [] a = never
  by_books P never latest None (k ∷ ks) a = absurd a
  by_books P never latest (Some j) [] a = absurd a
  by_books P never latest (Some j) (k ∷ ks) (m, all) = latest j k ks m all

  pub none_open : (ks : List Observed) → AllByRecursion (Settled f bound) ks → any_open ks ≡ false
  none_open [] all = refl
  none_open (k ∷ ks) (here, rest) = ap (λ b. b || any_open ks) here.decided ∙ none_open ks rest

  -- Time passes.
  pub older : {now : ℕ} (j : Job) (k : Observed) → Matches f bound now j k → Matches f bound (suc now) j k
  older j k m =
      record {
        release = m.release;
        given = m.given;
        past = omega (arith, m.past);
        waited = m.waited;
        closed = m.closed;
        opened = m.opened;
        suspended = m.suspended;
      }

  -- An open job takes another open phase, and may have waited longer.
  pub moved : {now : ℕ} (j j' : Job) (k : Observed) → j'.release ≡ j.release → j'.given ≡ j.given
      → is_open j.phase ≡ true → is_open j'.phase ≡ true → j'.waited ≤ f.suspension
      → (is_waiting j'.phase ≡ true → j'.waited < f.suspension) → Matches f bound now j k → Matches f bound now j' k
  moved j j' k release given was is waited room m =
      record {
        release = m.release ∙ sym release;
        given = m.given ∙ sym given;
        past = omega (arith, m.past);
        waited = waited;
        closed = λ e. absurd (both_ways _ e is);
        opened = λ _. m.opened was;
        suspended = room;
      }

-- Where only the latest job is open, it is the earliest open one.
pub latest_open : (k : Observed) (ks : List Observed) → k.fate ≡ still_open → any_open (k ∷ ks) ≡ true
latest_open k ks e = ap (λ t. undecided t || any_open ks) e

pub on_latest : (change : Observed → Observed) (k : Observed) (ks : List Observed) → k.fate ≡ still_open → any_open ks ≡ false
    → on_earliest change (k ∷ ks) ≡ change k ∷ ks
on_latest change k ks e none = rw (none, e)
