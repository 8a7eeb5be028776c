-- What every call does to what stays true of a run.
use Rattle.std.proofs.Common.{◌≡◌, ℕ, zero, suc, ◌+◌, ◌-◌, ◌<◌, ◌≤◌, Bool, true, false, cond, not, ◌&&◌, eqb, List, [], ◌∷◌, length, take, drop, ℤ, Some, None, Ok, Err, Option, Result, unwrap_or, sym, refl, ap, ◌∙◌, subst, ⊎_elim, arith}
use Rattle.std.proofs.lemmas.Bool.{cases_eq, cases_lt, both_ways, false≢true, not-false, and_from, and_left, eq-eqb, ne_eqb, eqb-false, leb-false}
use Rattle.std.specs.Option.{option_map}
use Rattle.std.specs.List.{AllByRecursion}
use Rattle.model.specs.Checks.{Checks, call}
use Rattle.model.specs.Machine.{no_such_task, releasing, step, too_soon, told, waking}
use Rattle.model.specs.Machine.{advance, advanced, advancing, complete, completed, next, runs, suspend, suspending}
use Rattle.model.specs.Processor.{processor}
use Rattle.model.specs.ProcessorLaw.{Rightful}
use Rattle.model.specs.Promises.{given_to}
use Rattle.model.specs.Reading.{Reading, Observed, any_open, given_one, now, on_earliest, read, with_release}
use Rattle.model.specs.State.{State, identity, in_phase, is_open, is_ready, is_waiting, job, no_job, put}
use Rattle.model.specs.declared.call.Answer.{Answer}
use Rattle.model.specs.declared.call.Answer.TheVariants.{Released, Waits, Woken, Finished, Passed}
use Rattle.model.specs.declared.call.Call.{Call}
use Rattle.model.specs.declared.call.Call.TheVariants.{Release, Wait, Wake, Finish, Tick}
use Rattle.model.specs.declared.figures.Figures.{Figures}
use Rattle.model.specs.declared.job.Job.{Job}
use Rattle.model.specs.declared.job.JobId.{JobId}
use Rattle.model.specs.declared.job.Phase.{Phase}
use Rattle.model.specs.declared.job.Phase.TheVariants.{Closed, Ready, Waiting}
use Rattle.model.specs.declared.refusal.Refusal.{Refusal}
use Rattle.model.proofs.Admitted.{Admitted}
use Rattle.model.proofs.Books.{Young}
use Rattle.model.proofs.Bound.{in_time}
use Rattle.model.proofs.Calls.{fresh, opened_at, opening, rephased, closing}
use Rattle.model.proofs.Kept.{Kept, most}
use Rattle.model.proofs.Processor.{processor_law}
use Rattle.model.proofs.Progress.{before_no_later, lost_more}
use Rattle.model.proofs.Sound.{Sound, bound, figures, all_before, given_most, latest_past, open_counts}
use Rattle.model.proofs.Supply.{tally_all}
use Rattle.model.proofs.Ticks.{Overtaken, resting, running, ticked_open, ticked_release}
use Rattle.model.proofs.Window.{window_most}

-- What holds of one task and of all others holds of every task.
by_task : (P : ℕ → Type 0) (task i : ℕ) → P task → ((i ≡ task → ⊥) → P i) → P i
by_task P task i own other = ⊎_elim (λ (e : i ≡ task). subst P (sym e) own) other (cases_eq i task)

waiting_open : (p : Phase) → is_waiting p ≡ true → is_open p ≡ true
waiting_open Closed e = e
waiting_open Ready e = refl
waiting_open Waiting e = refl

ready_open : (p : Phase) → is_ready p ≡ true → is_open p ≡ true
ready_open Closed e = e
ready_open Ready e = refl
ready_open Waiting e = refl

-- A job whose phase passes a test that closed jobs fail belongs to a task of the set.
in_set : {tasks : List Figures} {bounds : List ℕ} {point : ℕ → ℤ} {s : State} {r : Reading} → Kept tasks bounds point s r
    → (test : Phase → Bool) → test Closed ≡ false → (i : ℕ) → test (job s i).phase ≡ true → i < length tasks
in_set {tasks} kept test closed i e =
    ⊎_elim (λ (in' : i < length tasks). in')
    (λ (out : length tasks ≤ i). absurd (both_ways _ (ap (λ o. test (unwrap_or o no_job).phase) (kept.outside i out) ∙ closed) e))
    (cases_lt i (length tasks))

module _ {tasks : List Figures} {points : List ℤ} {bounds : List ℕ} {point : ℕ → ℤ} {before : JobId → JobId → Bool}
    (set : Admitted tasks points bounds point before) {s : State} {r : Reading} (kept : Kept tasks bounds point s r) where
  abbrev Here : ℕ → Option Job → List Observed → Type 0
  Here i o js = Sound tasks bounds point (now r) kept.history i o js

  -- What is left to show of a call, by its answer and the state after it.
  abbrev After : Call → Result Answer Refusal × State → Type 0
  After c (answer, next) = Kept tasks bounds point next (read c answer r)

  -- A call that is refused changes nothing; one that is granted passed its checks.
  unless_refused : {A : Type 0} (c : Call) (wrap : A → Answer) (checks : Checks) (answer : A) (next : State)
      → (AllByRecursion (λ check. check.0 ≡ false) checks → After c (Ok (wrap answer), next)) → After c (told wrap (call checks s answer next))
  unless_refused c wrap [] answer s' granted = granted tt
  unless_refused c wrap (check ∷ rest) answer s' granted = go check.0 refl (unless_refused c wrap rest answer s')
    where
      go : (b : Bool) → check.0 ≡ b
          → ((AllByRecursion (λ check. check.0 ≡ false) rest → After c (Ok (wrap answer), s')) → After c (told wrap (call rest s answer s')))
          → After c (told wrap (cond b (Err check.1, s) (call rest s answer s')))
      go true e others = kept
      go false e others = others (λ all. granted (e, all))

  -- A call that changes the latest job of one task.
  one_changed : (task : ℕ) → task < length tasks → (j : Job) (jobs : ℕ → List Observed) (whole : Bool) → whole ≡ true
      → ((i : ℕ) → (i ≡ task → ⊥) → jobs i ≡ r.jobs i) → Here task (Some j) (jobs task) → Young (bound bounds task) (now r) j
      → Kept tasks bounds point (put task j s) (record { ticks = r.ticks; jobs = jobs; whole = whole })
  one_changed task in' j jobs whole still others sound young =
      record {
        history = kept.history;
        shown = kept.shown;
        clock = kept.clock;
        sound = λ i. by_task (λ (t : ℕ). Here t (latest t) (jobs t)) task i
            (rw (eq-eqb task task refl) sound)
            (λ apart. rw (ne_eqb i task apart, others i apart) (kept.sound i));
        young = λ i. by_task (λ (t : ℕ). Young (bound bounds t) (now r) (unwrap_or (latest t) no_job)) task i
            (rw (eq-eqb task task refl) young)
            (λ apart. rw (ne_eqb i task apart) (kept.young i));
        whole = still;
        outside = λ i out. rw (ne_eqb i task (omega arith)) (kept.outside i out);
        window = kept.window;
      }
    where
      latest : ℕ → Option Job
      latest = (put task j s).latest

  released : (task : ℕ) → After (Release task) (step tasks before (Release task) s)
  released task = unless_refused (Release task) Released (releasing tasks task s) s.clock _ (λ (out, (soon, _)). granted out soon)
    where
      granted : no_such_task tasks task ≡ false → too_soon (figures tasks task).period s.clock (s.latest task) ≡ false
          → Kept tasks bounds point (put task (fresh s.clock) s) (with_release task r)
      granted out soon =
          let in' : task < length tasks = leb-false _ _ out in
          let not_soon = subst (λ c. too_soon (figures tasks task).period c (s.latest task) ≡ false) (sym kept.clock) soon in
          let (closed, opened) =
          opening (kept.sound task) (kept.young task) (set.allowed.1 task in') (set.warrant.in_time task in') not_soon in
          let here = subst (λ c. Here task (Some (fresh c)) (opened_at (now r) ∷ r.jobs task)) kept.clock opened in
          one_changed task in' (fresh s.clock) _ _ (and_from _ _ kept.whole (ap not closed)) (λ i apart. rw (ne_eqb i task apart))
          (rw (eq-eqb task task refl) here) (λ _. omega (arith, kept.clock, set.warrant.positive task in'))

  -- A wait or a wake: the job goes on in another phase.
  rephases : (task : ℕ) → task < length tasks → (p : Phase) → is_open (job s task).phase ≡ true → is_open p ≡ true
      → (is_waiting p ≡ true → (job s task).waited < (figures tasks task).suspension)
      → Kept tasks bounds point (put task (in_phase p (job s task)) s) r
  rephases task in' p opened goes_on room =
      one_changed task in' (in_phase p (job s task)) r.jobs r.whole kept.whole (λ i apart. refl)
      (rephased (kept.sound task) p opened goes_on room) (λ _. kept.young task opened)

  woken : (task : ℕ) → After (Wake task) (step tasks before (Wake task) s)
  woken task =
      unless_refused (Wake task) Woken (waking tasks task s) (job s task).waited _
      (λ (out, (waits, _)).
      rephases task (leb-false _ _ out) Ready (waiting_open _ (not-false _ waits)) refl (λ e. absurd (false≢true e)))

  suspended : (chosen : Option ℕ) → Rightful tasks before s chosen → After Wait (told Waits (suspend tasks chosen s))
  suspended None idle = kept
  suspended (Some task) f =
      unless_refused Wait Waits (suspending tasks (Some task) s) task _
      (λ (_, (spare, _)). rephases task f.of_the_set Waiting opened refl (λ _. room spare))
    where
      opened : is_open (job s task).phase ≡ true
      opened = ready_open _ f.ready

      room : eqb (job s task).waited (figures tasks task).suspension ≡ false → (job s task).waited < (figures tasks task).suspension
      room spare = let (_, waited) = open_counts (kept.sound task) opened in omega (arith, eqb-false _ _ spare)

  finished : (chosen : Option ℕ) → Rightful tasks before s chosen → After Finish (told Finished (complete tasks chosen s))
  finished None idle = kept
  finished (Some task) f =
      let age = ap (λ c. c - (job s task).release) (sym kept.clock) in
      let (found, here) =
      closing (kept.sound task) (kept.young task) (ready_open _ f.ready) (completed tasks (Some task) s) refl age in
      one_changed task f.of_the_set (in_phase Closed (job s task)) _ _ (and_from _ _ kept.whole found)
      (λ i apart. rw (ne_eqb i task apart)) (rw (eq-eqb task task refl) here) (λ e. absurd (false≢true e))

  -- The state and the reading after a tick for the job x, if every task is sound.
  module _ (x : Option JobId) (chosen : Option ℕ) (jobs : ℕ → List Observed) (whole : Bool) where
    abbrev latest : ℕ → Option Job
    latest = (next tasks chosen s).latest

    abbrev ticks : List (Option ℕ)
    ticks = option_map (λ a. a.task) x ∷ r.ticks

    abbrev SoundOn : ℕ → Type 0
    SoundOn i = Sound tasks bounds point (suc (now r)) (x ∷ kept.history) i (latest i) (jobs i)

    window_now : (k : ℕ) → k < length tasks → SoundOn k → (long : ℕ) → 1 ≤ long
        → given_to k (take long ticks) ≤ most tasks bounds k long
    window_now k in' sound long some =
        let f : Figures = figures tasks k in
        let past : (unwrap_or (latest k) no_job).release < suc (now r) =
        omega (arith, ticked_release f (runs chosen k) (s.latest k), latest_past (kept.sound k)) in
        rw (kept.shown, tally_all k long (x ∷ kept.history))
        (window_most (bound bounds k) (suc (now r)) k f.period f.execution (x ∷ kept.history) (jobs k) sound.supply
        sound.spaced (given_most sound) (all_before sound (suc (now r)) past) (omega (arith, set.allowed.1 k in')) long some)

    windows : ((i : ℕ) → SoundOn i) → (k : ℕ) → k < length tasks → (later long : ℕ) → 1 ≤ long
        → given_to k (take long (drop later ticks)) ≤ most tasks bounds k long
    windows sound k in' zero long some = window_now k in' (sound k) long some
    windows sound k in' (suc later) long some = kept.window k in' later long some

    young_now : ((i : ℕ) → SoundOn i) → (i : ℕ) → Young (bound bounds i) (suc (now r)) (unwrap_or (latest i) no_job)
    young_now sound i opened =
        let was = ticked_open (figures tasks i) (runs chosen i) (s.latest i) opened in
        let same = ticked_release (figures tasks i) (runs chosen i) (s.latest i) in
        in_time set sound i (in_set kept is_open refl i was) (omega (arith, kept.young i was)) opened

    ticks_on : whole ≡ true → ((i : ℕ) → SoundOn i)
        → Kept tasks bounds point (next tasks chosen s) (record { ticks = ticks; jobs = jobs; whole = whole })
    ticks_on still sound =
        record {
          history = x ∷ kept.history;
          shown = ap (λ t. option_map (λ a. a.task) x ∷ t) kept.shown;
          clock = omega (arith, kept.clock);
          sound = sound;
          young = young_now sound;
          whole = still;
          outside = λ i out. ap (option_map _) (kept.outside i out);
          window = windows sound;
        }

  passed : (chosen : Option ℕ) → Rightful tasks before s chosen → After Tick (told Passed (advance tasks chosen s))
  passed None idle =
      unless_refused Tick Passed (advancing tasks None s) (advanced tasks None s) (next tasks None s)
      (λ _. ticks_on None None r.jobs r.whole kept.whole
      (λ i. resting (kept.sound i) None (λ p. refl) (λ e. absurd (both_ways _ (idle i (in_set kept is_ready refl i e)) e))))
  passed (Some task) f =
      let (found, here) = running (kept.sound task) (kept.young task) f.ready in
      let spent : Bool = eqb ((job s task).given + 1) (figures tasks task).execution in
      let jobs : ℕ → List Observed = λ i. cond (eqb i task) (on_earliest (given_one (suc (now r)) spent) (r.jobs task)) (r.jobs i) in
      let whole : Bool = r.whole && any_open (r.jobs task) in
      let x : Option JobId = Some (identity s task) in
      unless_refused Tick Passed (advancing tasks (Some task) s) (advanced tasks (Some task) s) (next tasks (Some task) s)
      (λ _. ticks_on x (Some task) jobs whole (and_from _ _ kept.whole found)
      (λ i. by_task (SoundOn x (Some task) jobs whole) task i
      (rw (eq-eqb task task refl) here)
      (λ apart. rw (ne_eqb i task apart)
      (resting (kept.sound i) x (λ p. and_left _ _ (ne_eqb i task apart)) (overtaken i apart)))))
    where
      overtaken : (i : ℕ) → (i ≡ task → ⊥) → is_ready (job s i).phase ≡ true
          → Overtaken (length tasks) point i (job s i) (Some (identity s task))
      overtaken i apart e h =
          lost_more (length tasks) point (identity s i) (identity s task) h f.of_the_set (λ same. apart (sym same))
          (before_no_later point before set.lawful (identity s task) (identity s i) (f.first i (in_set kept is_ready refl i e) e apart))

  pub step_kept : (c : Call) → After c (step tasks before c s)
  step_kept (Release task) = released task
  step_kept Wait = suspended (processor tasks before s) (processor_law point before set.lawful tasks s).0
  step_kept (Wake task) = woken task
  step_kept Finish = finished (processor tasks before s) (processor_law point before set.lawful tasks s).0
  step_kept Tick = passed (processor tasks before s) (processor_law point before set.lawful tasks s).0
