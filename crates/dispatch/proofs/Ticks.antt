-- A tick is the supply of the job with the processor and the delay of the waiting jobs.
use Rattle.std.proofs.Common.{◌≡◌, ℕ, ◌+◌, Bool, true, false, cond, ◌&&◌, eqb, ltb, List, length, get_or, Some, None, Option, unwrap_or, sym, refl, ap, ◌∙◌, subst, ⊎_elim, arith}
use Rattle.std.proofs.lemmas.Bool.{and_right, both_ways, cases_Bool, eqb-true, lt-ltb}
use Rattle.std.proofs.lemmas.Bool.Decides.{nat_tests}
use Rattle.std.specs.Option.{option_map}
use Rattle.model.specs.Figures.{no_task}
use Rattle.model.specs.Machine.{counted, overdue, runs, ticked}
use Rattle.model.specs.State.{State, is_ready, is_waiting, job, no_job, put}
use Rattle.model.specs.Words.{word}
use Rattle.model.specs.declared.figures.Figures.{Figures}
use Rattle.model.specs.declared.job.Job.{Job}
use Rattle.model.specs.declared.job.Phase.{Phase}
use Rattle.model.specs.declared.job.Phase.TheVariants.{Closed, Ready, Waiting}
use Rattle.words.proofs.Words.{word_unique}
use Rattle.words.specs.Bits.{has}
use Rattle.dispatch.proofs.Boards.{state_is}
use Rattle.dispatch.proofs.Outside.{open_inside, waiting_opens}
use Rattle.dispatch.specs.Sound.{AllInBounds, Chosen, WordOf}
use Rattle.dispatch.specs.Ticks.{delayed_state, supplied_state}

-- A change of the job of one task, written as a change at every number that is this task.
pub put_everywhere : (k : ℕ) (g : ℕ → Job) (s : State)
    → put k (g k) s ≡ record { clock = s.clock; latest = λ i. cond (eqb i k) (Some (g i)) (s.latest i) }
put_everywhere k g s =
    state_is s.clock s.clock (put k (g k) s).latest (λ i. cond (eqb i k) (Some (g i)) (s.latest i)) refl (λ i. grind (arith, nat_tests))

-- A job that neither runs nor waits is as it was.
unmoved : (f : Figures) (j : Job) → is_waiting j.phase ≡ false → ticked f false j ≡ j
unmoved f j h = simp h

all_unmoved : (f : Figures) (o : Option Job) → is_waiting (unwrap_or o no_job).phase ≡ false → option_map (ticked f false) o ≡ o
all_unmoved f None h = refl
all_unmoved f (Some j) h = ap Some (unmoved f j h)

-- A job in a phase that is not closed is there.
there : (test : Phase → Bool) (o : Option Job) → test Closed ≡ false → test (unwrap_or o no_job).phase ≡ true → o ≡ Some (unwrap_or o no_job)
there test None closed h = absurd (both_ways (test Closed) closed h)
there test (Some j) closed h = refl

-- A ready job does not wait.
ready_not_waiting : (p : Phase) → is_ready p ≡ true → is_waiting p ≡ true → ⊥
ready_not_waiting Closed r w = both_ways false refl r
ready_not_waiting Ready r w = both_ways false refl w
ready_not_waiting Waiting r w = both_ways false refl r

module _ (tasks : List Figures) (s supplied : State) (waiting : ℕ) (chosen : Option ℕ) (sound : AllInBounds tasks s)
    (its : WordOf is_waiting s waiting) (right : Chosen tasks s chosen) (state : supplied ≡ supplied_state tasks chosen s) where
  running_is_ready : (o : Option ℕ) (i : ℕ) → Chosen tasks s o → runs o i ≡ true → is_ready (job s i).phase ≡ true
  running_is_ready None i c r = absurd (both_ways false refl r)
  running_is_ready (Some k) i c r = subst (λ (m : ℕ). is_ready (job s m).phase ≡ true) (sym (eqb-true i k r)) c.1

  -- A waiting job does not run.
  not_running : (i : ℕ) → is_waiting (job s i).phase ≡ true → runs chosen i ≡ false
  not_running i w =
      ⊎_elim (λ (r : runs chosen i ≡ true). absurd (ready_not_waiting (job s i).phase (running_is_ready chosen i right r) w)) (λ r. r)
      (cases_Bool (runs chosen i))

  -- So it is as it was after the supply.
  still : (i : ℕ) → runs chosen i ≡ false → job supplied i ≡ job s i
  still i r =
      ap (λ (t : State). unwrap_or (t.latest i) no_job) state
      ∙ ap (λ (t : Bool). unwrap_or (cond t (Some (ticked (get_or tasks i no_task) true (job s i))) (s.latest i)) no_job) r

  waits : (i : ℕ) → has waiting i ≡ true → is_waiting (job s i).phase ≡ true
  waits i h = sym (its i) ∙ h

  pub still_waits : (i : ℕ) → has waiting i ≡ true → is_waiting (job supplied i).phase ≡ true
  still_waits i h = ap (λ (j : Job). is_waiting j.phase) (still i (not_running i (waits i h))) ∙ waits i h

  -- The forced tasks, as the machine answers them.
  late_is : (i : ℕ) → (has waiting i && overdue (get_or tasks i no_task) (counted false (job supplied i)))
      ≡ (ltb i (length tasks) && overdue (get_or tasks i no_task) (counted (runs chosen i) (job s i)))
  late_is i =
      ⊎_elim
      (λ (h : has waiting i ≡ true).
      let idle = not_running i (waits i h) in
      let inside = lt-ltb i (length tasks) (open_inside tasks s sound i (waiting_opens (job s i).phase (waits i h))) in
      simp (h, still i idle, inside))
      (λ (h : has waiting i ≡ false).
      let rests = sym (its i) ∙ h in
      rw (h, rests) (sym (and_right (ltb i (length tasks)) _ refl)))
      (cases_Bool (has waiting i))

  pub forced_word : (forced : ℕ)
      → ((i : ℕ) → has forced i ≡ (has waiting i && overdue (get_or tasks i no_task) (counted false (job supplied i))))
      → forced ≡ word (length tasks) (λ i. overdue (get_or tasks i no_task) (counted (runs chosen i) (job s i)))
  forced_word forced bits = word_unique (length tasks) forced _ (λ i. bits i ∙ late_is i)

  -- The record of a task after both halves.
  moved : (i : ℕ) → cond (has waiting i) (Some (ticked (get_or tasks i no_task) false (job supplied i))) (supplied.latest i)
      ≡ option_map (ticked (get_or tasks i no_task) (runs chosen i)) (s.latest i)
  moved i =
      ⊎_elim
      (λ (h : has waiting i ≡ true).
      let idle = not_running i (waits i h) in
      rw (h, still i idle, idle) (sym (ap (option_map (ticked (get_or tasks i no_task) false)) (there is_waiting (s.latest i) refl (waits i h)))))
      (λ (h : has waiting i ≡ false).
      rw h
      (ap (λ (t : State). t.latest i) state
      ∙ ⊎_elim
      (λ (r : runs chosen i ≡ true).
      rw r (sym (ap (option_map (ticked (get_or tasks i no_task) true)) (there is_ready (s.latest i) refl (running_is_ready chosen i right r)))))
      (λ (r : runs chosen i ≡ false). rw r (sym (all_unmoved (get_or tasks i no_task) (s.latest i) (sym (its i) ∙ h))))
      (cases_Bool (runs chosen i))))
      (cases_Bool (has waiting i))

  -- The state after both halves and the step of the clock, as the machine leaves it.
  pub ticked_state : (delayed : State) → delayed ≡ delayed_state tasks (has waiting) supplied
      → ◌≡◌ {A = State} (record { clock = delayed.clock + 1; latest = delayed.latest })
      (record { clock = s.clock + 1; latest = λ i. option_map (ticked (get_or tasks i no_task) (runs chosen i)) (s.latest i) })
  ticked_state delayed e =
      state_is (delayed.clock + 1) (s.clock + 1) delayed.latest
      (λ i. option_map (ticked (get_or tasks i no_task) (runs chosen i)) (s.latest i))
      (ap (λ (t : State). t.clock + 1) e ∙ ap (λ (t : State). t.clock + 1) state)
      (λ i. ap (λ (t : State). t.latest i) e ∙ moved i)
