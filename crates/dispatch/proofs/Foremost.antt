-- The ready job that goes before all others, found by a walk of the word of the ready tasks.
use Rattle.std.proofs.Common.{◌≡◌, ℕ, ◌<◌, Bool, true, false, not, ◌&&◌, eqb, List, length, ℤ, Some, None, Option, sym, refl, ap, ◌∙◌, subst, ⊎_elim}
use Rattle.std.proofs.lemmas.Bool.{and_cases, and_left, and_parts, and_right, both_ways, cases_eq, eq-eqb, eqb-true, not-false, not_from_true}
use Rattle.std.specs.Option.{option_map, option_map_or}
use Rattle.model.proofs.Processor.{processor_law}
use Rattle.model.specs.Orders.{Lawful}
use Rattle.model.specs.Processor.{processor}
use Rattle.model.specs.ProcessorLaw.{Foremost, Rightful}
use Rattle.model.specs.State.{State, identity, is_ready, job}
use Rattle.model.specs.declared.figures.Figures.{Figures}
use Rattle.model.specs.declared.job.JobId.{JobId}
use Rattle.words.proofs.Digits.{has_zero}
use Rattle.words.specs.Bits.{has}
use Rattle.dispatch.proofs.Outside.{open_inside, ready_opens}
use Rattle.dispatch.specs.Sound.{AllInBounds, WordOf}

-- Of the ready tasks met so far, those in the word ready and not in the word rest, the job of this one goes before all others.
pub record Leads (before : JobId → JobId → Bool) (s : State) (ready rest : ℕ) (first : JobId) : Type 0 where
  pub its : first ≡ identity s first.task
  pub there : has ready first.task ≡ true
  pub met : has rest first.task ≡ false
  pub ahead : (j : ℕ) → has ready j ≡ true → has rest j ≡ false → (j ≡ first.task → ⊥) → before first (identity s j) ≡ true

-- The best job so far leads; there is none only if no ready task was met.
abbrev pub Best : (before : JobId → JobId → Bool) (s : State) (ready rest : ℕ) → Option JobId → Type 0
Best before s ready rest None = (j : ℕ) → has ready j ≡ true → has rest j ≡ true
Best before s ready rest (Some first) = Leads before s ready rest first

-- A walk of the word ready that has still to meet the tasks in the word rest.
pub record Walked (before : JobId → JobId → Bool) (s : State) (ready rest : ℕ) (best : Option JobId) : Type 0 where
  pub left : (j : ℕ) → has rest j ≡ true → has ready j ≡ true
  pub lead : Best before s ready rest best

-- The walk meets one job more.
module _ (rest next : ℕ) (new : JobId) (here : has rest new.task ≡ true)
    (cleared : (j : ℕ) → has next j ≡ (has rest j && not (eqb j new.task))) where
  met_now : has next new.task ≡ false
  met_now = cleared new.task ∙ and_right (has rest new.task) _ (not_from_true _ (eq-eqb new.task new.task refl))

  met_still : (j : ℕ) → has rest j ≡ false → has next j ≡ false
  met_still j h = cleared j ∙ and_left (has rest j) _ h

  met_before : (j : ℕ) → has next j ≡ false → (j ≡ new.task → ⊥) → has rest j ≡ false
  met_before j h apart =
      ⊎_elim (λ e. e) (λ same. absurd (apart (eqb-true j new.task (not-false _ same)))) (and_cases (has rest j) _ (sym (cleared j) ∙ h))

  module _ {point : ℕ → ℤ} {before : JobId → JobId → Bool} (lawful : Lawful point before) {s : State} {ready : ℕ}
      (its : new ≡ identity s new.task) where
    module _ {best : Option JobId} (walked : Walked before s ready rest best) where
      left_still : (j : ℕ) → has next j ≡ true → has ready j ≡ true
      left_still j h = walked.left j (and_parts (has rest j) _ (sym (cleared j) ∙ h)).0

      leading : ((j : ℕ) → has ready j ≡ true → has next j ≡ false → (j ≡ new.task → ⊥) → before new (identity s j) ≡ true)
          → Walked before s ready next (Some new)
      leading ahead =
          record { left = left_still; lead = record { its = its; there = walked.left new.task here; met = met_now; ahead = ahead } }

    -- A job that goes before the one that leads, or is the first one met, leads from now on.
    pub takes_the_lead : (best : Option JobId) → Walked before s ready rest best → option_map_or (λ first. before new first) best true ≡ true
        → Walked before s ready next (Some new)
    takes_the_lead None walked goes =
        leading walked (λ j r m apart. absurd (both_ways (has rest j) (met_before j m apart) (walked.lead j r)))
    takes_the_lead (Some first) walked goes =
        leading walked
        (λ j r m apart.
        ⊎_elim
        (λ (same : j ≡ first.task). subst (λ (a : JobId). before new a ≡ true) (walked.lead.its ∙ ap (identity s) (sym same)) goes)
        (λ other. lawful.transitive new first (identity s j) goes (walked.lead.ahead j r (met_before j m apart) other))
        (cases_eq j first.task))

    -- Any other job goes behind the one that leads.
    pub keeps_the_lead : (best : Option JobId) → Walked before s ready rest best → option_map_or (λ first. before new first) best true ≡ false
        → Walked before s ready next best
    keeps_the_lead None walked behind = absurd (both_ways true behind refl)
    keeps_the_lead (Some first) walked behind =
        let differ : first ≡ new → ⊥ =
        λ same. both_ways (has rest new.task) (subst (λ (a : JobId). has rest a.task ≡ false) same walked.lead.met) here in
        record {
          left = left_still walked;
          lead = record {
            its = walked.lead.its;
            there = walked.lead.there;
            met = met_still first.task walked.lead.met;
            ahead = λ j r m apart.
                ⊎_elim
                (λ (same : j ≡ new.task). subst (λ (a : JobId). before first a ≡ true) (its ∙ ap (identity s) (sym same))
                (lawful.exactly_one first new differ ∙ ap not behind))
                (λ other. walked.lead.ahead j r (met_before j m other) apart)
                (cases_eq j new.task);
          };
        }

-- At the end of the walk every ready job was met.
module _ {point : ℕ → ℤ} {before : JobId → JobId → Bool} (lawful : Lawful point before) (tasks : List Figures) (s : State)
    (sound : AllInBounds tasks s) {ready rest : ℕ} (word : WordOf is_ready s ready) {best : Option JobId}
    (walked : Walked before s ready rest best) (over : rest ≡ 0) where
  in_the_set : (i : ℕ) → is_ready (job s i).phase ≡ true → i < length tasks
  in_the_set i r = open_inside tasks s sound i (ready_opens (job s i).phase r)

  all_met : (j : ℕ) → has rest j ≡ false
  all_met j = subst (λ (w : ℕ). has w j ≡ false) (sym over) (has_zero j)

  -- The job that leads has the processor; if none leads, none has it.
  pub best_runs : option_map (λ (a : JobId). a.task) best ≡ processor tasks before s
  best_runs = go best refl
    where
      idle : best ≡ None → (o : Option ℕ) → Rightful tasks before s o → None ≡ o
      idle is None f = refl
      idle is (Some i) f =
          let left = subst (Best before s ready rest) is walked.lead i (word i ∙ f.ready) in
          absurd (both_ways (has rest i) (all_met i) left)

      foremost : (first : JobId) → Leads before s ready rest first → Foremost tasks before s first.task
      foremost first leader =
          let r = sym (word first.task) ∙ leader.there in
          record {
            of_the_set = in_the_set first.task r;
            ready = r;
            first = λ j l h apart.
                subst (λ (a : JobId). before a (identity s j) ≡ true) leader.its (leader.ahead j (word j ∙ h) (all_met j) apart);
          }

      go : (o : Option JobId) → best ≡ o → option_map (λ (a : JobId). a.task) o ≡ processor tasks before s
      go None is = idle is (processor tasks before s) (processor_law point before lawful tasks s).0
      go (Some first) is =
          sym ((processor_law point before lawful tasks s).1 first.task (foremost first (subst (Best before s ready rest) is walked.lead)))
