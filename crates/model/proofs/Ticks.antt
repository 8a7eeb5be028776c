-- What a tick does to a task: to the one whose job ran, and to every other.
use Rattle.std.proofs.Common.{◌≡◌, ℕ, suc, ◌+◌, ◌<◌, Bool, true, false, cond, eqb, List, [], ◌∷◌, length, ℤ, Some, None, Option, unwrap_or, sym, refl, ap, ◌∙◌, subst, arith}
use Rattle.std.proofs.lemmas.Bool.{true≢false, false≢true, both_ways, cond_both, eqb-true, eqb-false}
use Rattle.std.specs.Option.{option_map}
use Rattle.model.specs.Machine.{counted, ended, forced, overdue, spent, ticked}
use Rattle.model.specs.Reading.{Observed, any_open, given_one, on_earliest}
use Rattle.model.specs.State.{in_phase, is_open, is_ready, no_job}
use Rattle.model.specs.declared.figures.Figures.{Figures}
use Rattle.model.specs.declared.job.Job.{Job}
use Rattle.model.specs.declared.job.JobId.{JobId}
use Rattle.model.specs.declared.job.Phase.{Phase}
use Rattle.model.specs.declared.job.Phase.TheVariants.{Closed, Ready, Waiting}
use Rattle.model.proofs.Books.{Matches, Young, latest_open, moved, none_open, older, on_latest}
use Rattle.model.proofs.Progress.{Progress, lost, lost_grows, progress_step}
use Rattle.model.proofs.Sound.{Sound, bound, figures}
use Rattle.model.proofs.Supply.{History, went, supply_other, supply_own}

-- A tick leaves the release of a job, and opens none.
pub ticked_release : (f : Figures) (ran : Bool) (o : Option Job)
    → (unwrap_or (option_map (ticked f ran) o) no_job).release ≡ (unwrap_or o no_job).release
ticked_release f ran None = refl
ticked_release f ran (Some j) = last (ended f ran (counted ran j)) ∙ first (counted ran j)
  where
    last : (x : Job) → (forced f x).release ≡ x.release
    last x = cond_both (overdue f x) _ _ (λ (y : Job). y.release ≡ x.release) (λ _. refl) (λ _. refl)

    first : (x : Job) → (ended f ran x).release ≡ x.release
    first x = cond_both (spent f ran x) _ _ (λ (y : Job). y.release ≡ x.release) (λ _. refl) (λ _. refl)

pub ticked_open : (f : Figures) (ran : Bool) (o : Option Job) → is_open (unwrap_or (option_map (ticked f ran) o) no_job).phase ≡ true
    → is_open (unwrap_or o no_job).phase ≡ true
ticked_open f ran None e = e
ticked_open f ran (Some j) e = go j.phase e
  where
    shut : (x : Job) (b : Bool) → is_open (forced f (cond b (in_phase Closed x) (in_phase Closed x))).phase ≡ false
    shut x true = refl
    shut x false = refl

    go : (p : Phase) → is_open (ticked f ran (in_phase p j)).phase ≡ true → is_open p ≡ true
    go Closed e = absurd (both_ways _ (shut (counted ran (in_phase Closed j)) (spent f ran (counted ran (in_phase Closed j)))) e)
    go Ready e = refl
    go Waiting e = refl

-- The job after one more tick of waiting, and the job that ran, ended or not.
abbrev longer : Job → Job
longer j = counted false (in_phase Waiting j)

abbrev served : Figures → Job → Bool → Job
served f j spent = forced f (cond spent (in_phase Closed (counted true (in_phase Ready j))) (counted true (in_phase Ready j)))

module _ (f : Figures) (limit now : ℕ) (j : Job) (k : Observed) where
  -- The books of a job that did not run.
  rested : (p : Phase) → Matches f limit now (in_phase p j) k → Matches f limit (suc now) (ticked f false (in_phase p j)) k
  rested Closed m = older f limit _ k m
  rested Ready m = older f limit _ k m
  rested Waiting m = go (eqb (j.waited + 1) f.suspension) refl
    where
      go : (b : Bool) → eqb (j.waited + 1) f.suspension ≡ b
          → Matches f limit (suc now) (cond b (in_phase Ready (longer j)) (longer j)) k
      go true e =
          moved f limit (in_phase Waiting j) (in_phase Ready (longer j)) k refl refl refl refl (omega (arith, m.suspended refl))
          (λ t. absurd (false≢true t)) (older f limit _ k m)
      go false e =
          let room : j.waited + 1 < f.suspension = omega (arith, m.suspended refl, eqb-false _ _ e) in
          moved f limit (in_phase Waiting j) (longer j) k refl refl refl refl (omega arith) (λ _. room) (older f limit _ k m)

  -- The books of a job that ran: it ends where it was given C, and stays open else.
  ran : Matches f limit now (in_phase Ready j) k → now < j.release + limit
      → (b : Bool) → eqb (j.given + 1) f.execution ≡ b → Matches f limit (suc now) (served f j b) (given_one (suc now) b k)
  ran m young true e =
      record {
        release = m.release;
        given = ap (λ g. g + 1) m.given;
        past = omega (arith, m.past);
        waited = m.waited;
        closed = λ _. record {
          decided = refl;
          responds = λ _. omega (arith, m.release);
          supplied = omega (arith, m.given, eqb-true _ _ e);
        };
        opened = λ t. absurd (false≢true t);
        suspended = λ t. absurd (false≢true t);
      }
  ran m young false e =
      record {
        release = m.release;
        given = ap (λ g. g + 1) m.given;
        past = omega (arith, m.past);
        waited = m.waited;
        closed = λ t. absurd (true≢false t);
        opened = λ _. ((m.opened refl).0, omega (arith, m.given, (m.opened refl).1, eqb-false _ _ e));
        suspended = λ t. absurd (false≢true t);
      }

-- The tick x is lost to a job that does not come after the job of task i.
abbrev pub Overtaken : ℕ → (ℕ → ℤ) → ℕ → Job → Option JobId → Type 0
Overtaken n point i j x =
    let own : JobId = record { task = i; release = j.release } in
    (h : History) → lost n point own h < lost n point own (x ∷ h)

module _ (n : ℕ) (point : ℕ → ℤ) (f : Figures) (now : ℕ) (h : History) (i : ℕ) (x : Option JobId) (j : Job) where
  abbrev own : JobId
  own = record { task = i; release = j.release }

  -- A job that did not run has waited, or the tick is lost to another.
  rested_progress : (p : Phase) → (is_ready p ≡ true → Overtaken n point i j x) → Progress n point now h i (in_phase p j)
      → Progress n point (suc now) (x ∷ h) i (ticked f false (in_phase p j))
  rested_progress Closed overtaken progress = λ t. absurd (false≢true t)
  rested_progress Ready overtaken progress =
      progress_step n point now h i (in_phase Ready j) (in_phase Ready j) x refl (λ t. t) (λ _ h. omega (arith, overtaken refl h)) progress
  rested_progress Waiting overtaken progress =
      cond_both (eqb (j.waited + 1) f.suspension) _ _ (λ (y : Job). Progress n point (suc now) (x ∷ h) i y)
      (λ _. go Ready) (λ _. go Waiting)
    where
      go : (p : Phase) → Progress n point (suc now) (x ∷ h) i (in_phase p (longer j))
      go p =
          progress_step n point now h i (in_phase Waiting j) (in_phase p (longer j)) x refl (λ _. refl)
          (λ _ h. omega (arith, lost_grows n point own x h)) progress

  ran_progress : Progress n point now h i (in_phase Ready j) → (b : Bool) → Progress n point (suc now) (x ∷ h) i (served f j b)
  ran_progress progress true = λ t. absurd (false≢true t)
  ran_progress progress false =
      progress_step n point now h i (in_phase Ready j) (counted true (in_phase Ready j)) x refl (λ t. t)
      (λ _ h. omega (arith, lost_grows n point own x h)) progress

-- What a tick makes of the task whose job ran: the reading finds its job, and all stays sound.
abbrev Ran : List Figures → List ℕ → (ℕ → ℤ) → ℕ → History → ℕ → Option Job → List Observed → Type 0
Ran tasks bounds point now h i o js = (any_open js ≡ true)
    × Sound tasks bounds point (suc now) (Some (record { task = i; release = (unwrap_or o no_job).release }) ∷ h) i
    (option_map (ticked (figures tasks i) true) o)
    (on_earliest (given_one (suc now) (eqb ((unwrap_or o no_job).given + 1) (figures tasks i).execution)) js)

module _ {tasks : List Figures} {bounds : List ℕ} {point : ℕ → ℤ} {now : ℕ} {h : History} {i : ℕ} where
  -- A task whose job did not run.
  pub resting : {o : Option Job} {js : List Observed} → Sound tasks bounds point now h i o js → (x : Option JobId)
      → ((p : ℕ → Bool) → went i p x ≡ false)
      → (is_ready (unwrap_or o no_job).phase ≡ true → Overtaken (length tasks) point i (unwrap_or o no_job) x)
      → Sound tasks bounds point (suc now) (x ∷ h) i (option_map (ticked (figures tasks i) false) o) js
  resting {o = None} {js = []} sound x other overtaken =
      record {
        agrees = tt;
        spaced = tt;
        progress = λ t. absurd (false≢true t);
        supply = supply_other (bound bounds i) now i h [] x other sound.supply;
      }
  resting {o = None} {js = k ∷ ks} sound x other overtaken = absurd sound.agrees
  resting {o = Some j} {js = []} sound x other overtaken = absurd sound.agrees
  resting {o = Some j} {js = k ∷ ks} sound x other overtaken =
      let (m, all) = sound.agrees in
      record {
        agrees = (rested (figures tasks i) (bound bounds i) now j k j.phase m, all);
        spaced = sound.spaced;
        progress = rested_progress (length tasks) point (figures tasks i) now h i x j j.phase overtaken sound.progress;
        supply = supply_other (bound bounds i) now i h (k ∷ ks) x other sound.supply;
      }

  -- The task whose job ran.
  pub running : {o : Option Job} {js : List Observed} → Sound tasks bounds point now h i o js
      → Young (bound bounds i) now (unwrap_or o no_job) → is_ready (unwrap_or o no_job).phase ≡ true → Ran tasks bounds point now h i o js
  running {o = None} sound young its = absurd (false≢true its)
  running {o = Some j} {js = []} sound young its = absurd sound.agrees
  running {o = Some j} {js = k ∷ ks} sound young its = go j.phase its sound young
    where
      go : (p : Phase) → is_ready p ≡ true → Sound tasks bounds point now h i (Some (in_phase p j)) (k ∷ ks)
          → Young (bound bounds i) now (in_phase p j) → Ran tasks bounds point now h i (Some (in_phase p j)) (k ∷ ks)
      go Closed e sound young = absurd (false≢true e)
      go Waiting e sound young = absurd (false≢true e)
      go Ready e sound young =
          let (m, all) = sound.agrees in
          let still = (m.opened refl).0 in
          let spent : Bool = eqb (j.given + 1) (figures tasks i).execution in
          let a : JobId = record { task = i; release = j.release } in
          let j' : Job = served (figures tasks i) j spent in
          let after : Sound tasks bounds point (suc now) (Some a ∷ h) i (Some j') (given_one (suc now) spent k ∷ ks) =
          record {
            agrees = (ran (figures tasks i) (bound bounds i) now j k m (young refl) spent refl, all);
            spaced = sound.spaced;
            progress = ran_progress (length tasks) point (figures tasks i) now h i (Some a) j sound.progress spent;
            supply = supply_own (bound bounds i) now i h k (given_one (suc now) spent k) ks a refl (sym m.release) refl refl
                (omega (arith, young refl, m.release)) sound.supply;
          } in (
            latest_open k ks still,
            subst (Sound tasks bounds point (suc now) (Some a ∷ h) i _)
                (sym (on_latest (given_one (suc now) spent) k ks still (none_open (figures tasks i) (bound bounds i) ks all))) after,
          )
