-- What release, wait, wake and finish do to the one task that they change.
use Rattle.std.proofs.Common.{◌≡◌, ℕ, ◌+◌, ◌-◌, ◌<◌, ◌≤◌, Bool, true, false, List, [], ◌∷◌, ℤ, Some, None, Option, unwrap_or, sym, refl, ◌∙◌, subst, le_trans, le_refl, arith}
use Rattle.std.proofs.ByRecursion.{All-weaker}
use Rattle.std.proofs.lemmas.Bool.{true≢false, false≢true, cond_both, ltb-false}
use Rattle.std.specs.List.{AllByRecursion}
use Rattle.model.specs.Figures.{Fit}
use Rattle.model.specs.Machine.{too_soon}
use Rattle.model.specs.Reading.{Observed, still_open, any_open, finished, on_earliest}
use Rattle.model.specs.State.{is_open, is_waiting, in_phase, no_job}
use Rattle.model.specs.declared.call.Ended.{Ended}
use Rattle.model.specs.declared.figures.Figures.{Figures}
use Rattle.model.specs.declared.job.Job.{Job}
use Rattle.model.specs.declared.job.Phase.{Phase}
use Rattle.model.specs.declared.job.Phase.TheVariants.{Closed, Ready}
use Rattle.model.proofs.Books.{Agrees, Young, by_books, latest_open, moved, none_open, on_latest}
use Rattle.model.proofs.Sound.{Sound, all_ended, bound, figures}
use Rattle.model.proofs.Spacing.{Gaps}
use Rattle.model.proofs.Supply.{History, recent, releases, supplied}

-- Where a release is not too soon, the latest job has ended, and all releases are a period ago.
module _ (f : Figures) (fit : Fit f) (limit now : ℕ) where
  ended_by_now : limit ≤ f.deadline → (o : Option Job) → Young limit now (unwrap_or o no_job) → too_soon f.period now o ≡ false
      → is_open (unwrap_or o no_job).phase ≡ false
  ended_by_now in_time None young e = refl
  ended_by_now in_time (Some j) young e = go (is_open j.phase) refl
    where
      go : (b : Bool) → is_open j.phase ≡ b → b ≡ false
      go true opened = absurd (omega (arith, young opened, ltb-false _ _ e))
      go false opened = refl

  apart_by_now : (o : Option Job) (js : List Observed) → Agrees f limit now o js → Gaps f.period (releases js)
      → too_soon f.period now o ≡ false → AllByRecursion (λ x. x + f.period ≤ now) (releases js)
  apart_by_now =
      by_books f limit
      (λ o js. Gaps f.period (releases js) → too_soon f.period now o ≡ false → AllByRecursion (λ x. x + f.period ≤ now) (releases js))
      (λ _ _. tt)
      (λ j k ks m all gaps e.
      let here : k.release + f.period ≤ now = omega (arith, m.release, ltb-false _ _ e) in
      (here, All-weaker _ _ (λ x far. omega arith) (releases ks) gaps.0))

-- A new job, in the state and in the reading.
abbrev pub fresh : ℕ → Job
fresh clock = record { release = clock; phase = Ready; given = 0; waited = 0 }

abbrev pub opened_at : ℕ → Observed
opened_at ticks = record { release = ticks; given = 0; fate = still_open }

module _ {tasks : List Figures} {bounds : List ℕ} {point : ℕ → ℤ} {now : ℕ} {h : History} {i : ℕ} where
  -- A release that is not too soon finds no open job, and opens one.
  pub opening : {o : Option Job} {js : List Observed} → Sound tasks bounds point now h i o js
      → Young (bound bounds i) now (unwrap_or o no_job) → Fit (figures tasks i) → bound bounds i ≤ (figures tasks i).deadline
      → too_soon (figures tasks i).period now o ≡ false
      → (any_open js ≡ false) × Sound tasks bounds point now h i (Some (fresh now)) (opened_at now ∷ js)
  opening {o} {js} sound young fit in_time e =
      let ended = all_ended sound (ended_by_now (figures tasks i) fit (bound bounds i) now in_time o young e) in (
        none_open (figures tasks i) (bound bounds i) js ended,
        record {
          agrees = (
            record {
              release = refl;
              given = refl;
              past = le_refl now;
              waited = omega arith;
              closed = λ t. absurd (true≢false t);
              opened = λ _. (refl, fit.0);
              suspended = λ t. absurd (false≢true t);
            },
            ended,
          );
          spaced = (apart_by_now (figures tasks i) fit (bound bounds i) now o js sound.agrees sound.spaced e, sound.spaced);
          progress = λ _ w within. omega arith;
          supply = λ p w. le_trans (sound.supply p w) (none_more (recent (bound bounds i) now w p));
        },
      )
    where
      none_more : (q : ℕ → Bool) → supplied q js ≤ supplied q (opened_at now ∷ js)
      none_more q = cond_both (q now) _ _ (λ (m : ℕ). supplied q js ≤ m) (λ _. omega arith) (λ _. le_refl _)

  -- A wait or a wake leaves the job open.
  pub rephased : {o : Option Job} {js : List Observed} → Sound tasks bounds point now h i o js → (p : Phase)
      → is_open (unwrap_or o no_job).phase ≡ true → is_open p ≡ true
      → (is_waiting p ≡ true → (unwrap_or o no_job).waited < (figures tasks i).suspension)
      → Sound tasks bounds point now h i (Some (in_phase p (unwrap_or o no_job))) js
  rephased {o = None} sound p its opened room = absurd (false≢true its)
  rephased {o = Some j} {js = []} sound p its opened room = absurd sound.agrees
  rephased {o = Some j} {js = k ∷ ks} sound p its opened room =
      let (m, all) = sound.agrees in
      record {
        agrees = (moved (figures tasks i) (bound bounds i) j (in_phase p j) k refl refl its opened m.waited room m, all);
        spaced = sound.spaced;
        progress = λ _. sound.progress its;
        supply = sound.supply;
      }

  -- A finish ends the job.
  pub closing : {o : Option Job} {js : List Observed} → Sound tasks bounds point now h i o js
      → Young (bound bounds i) now (unwrap_or o no_job) → is_open (unwrap_or o no_job).phase ≡ true
      → (e : Ended) → e.given ≡ (unwrap_or o no_job).given → e.age ≡ now - (unwrap_or o no_job).release
      → (any_open js ≡ true)
      × Sound tasks bounds point now h i (Some (in_phase Closed (unwrap_or o no_job))) (on_earliest (finished now e) js)
  closing {o = None} sound young its e given age = absurd (false≢true its)
  closing {o = Some j} {js = []} sound young its e given age = absurd sound.agrees
  closing {o = Some j} {js = k ∷ ks} sound young its e given age =
      let (m, all) = sound.agrees in
      let (still, fewer) = m.opened its in
      let after : Sound tasks bounds point now h i (Some (in_phase Closed j)) (finished now e k ∷ ks) =
      record {
        agrees = (
          record {
            release = m.release;
            given = m.given;
            past = m.past;
            waited = m.waited;
            closed = λ _. record {
              decided = refl;
              responds = λ _. omega (arith, m.release, young its);
              supplied = (fewer, given ∙ sym m.given, omega (arith, m.release));
            };
            opened = λ t. absurd (false≢true t);
            suspended = λ t. absurd (false≢true t);
          },
          all,
        );
        spaced = sound.spaced;
        progress = λ t. absurd (false≢true t);
        supply = sound.supply;
      } in (
        latest_open k ks still,
        subst (Sound tasks bounds point now h i (Some (in_phase Closed j)))
            (sym (on_latest _ k ks still (none_open (figures tasks i) (bound bounds i) ks all))) after,
      )
