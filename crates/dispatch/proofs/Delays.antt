-- The walk of the waiting jobs, each of which waits one tick more.
use Rattle.std.proofs.Common.{◌≡◌, ℕ, Bool, true, false, cond, not, ◌&&◌, ◌||◌, eqb, List, get_or, Some, Option, unwrap_or, sym, refl, ap, ◌∙◌, subst, ⊎_elim}
use Rattle.std.proofs.Math.Bool.{and-true, or-false}
use Rattle.std.proofs.lemmas.Bool.{and_parts, and_right, cases_eq, eq-eqb, ne_eqb, not_from_true}
use Rattle.model.specs.Figures.{no_task}
use Rattle.model.specs.Machine.{counted, overdue, ticked}
use Rattle.model.specs.State.{State, job, no_job, put}
use Rattle.model.specs.declared.figures.Figures.{Figures}
use Rattle.model.specs.declared.job.Job.{Job}
use Rattle.words.specs.Bits.{has}

-- The number is in the first word and no more in the second.
abbrev pub met : ℕ → ℕ → ℕ → Bool
met all rest i = has all i && not (has rest i)

-- A walk of a word that has still to meet the numbers in `rest`: the jobs that it met have waited one tick more, and those of them that
-- are overdue make the word `forced`.
pub record Delaying (tasks : List Figures) (from at : State) (all rest forced : ℕ) : Type 0 where
  pub clock : at.clock ≡ from.clock
  pub left : (i : ℕ) → has rest i ≡ true → has all i ≡ true
  pub latest : (i : ℕ) → at.latest i
      ≡ cond (met all rest i) (Some (ticked (get_or tasks i no_task) false (job from i))) (from.latest i)
  pub word : (i : ℕ) → has forced i ≡ (met all rest i && overdue (get_or tasks i no_task) (counted false (job from i)))

-- The record of a task, if it was met and if not.
abbrev record_of : List Figures → State → ℕ → Bool → Option Job
record_of tasks from i t = cond t (Some (ticked (get_or tasks i no_task) false (job from i))) (from.latest i)

-- Whether the job of a task is overdue after one more tick of waiting.
abbrev late : List Figures → State → ℕ → Bool
late tasks from i = overdue (get_or tasks i no_task) (counted false (job from i))

module _ {tasks : List Figures} {from at : State} {all rest forced : ℕ} (d : Delaying tasks from at all rest forced) (k : ℕ)
    (here : has rest k ≡ true) where
  not_met : met all rest k ≡ false
  not_met = and_right (has all k) (not (has rest k)) (not_from_true (has rest k) here)

  -- A job that the walk has still to meet is as it was.
  pub unmet : job at k ≡ job from k
  unmet = ap (λ (o : Option Job). unwrap_or o no_job) (d.latest k ∙ ap (record_of tasks from k) not_met)

  -- The walk meets the job: it waits one tick more.
  module _ (next : State) (less new : ℕ) (state : next ≡ put k (ticked (get_or tasks k no_task) false (job at k)) at)
      (cleared : (i : ℕ) → has less i ≡ (has rest i && not (eqb i k)))
      (marked : (i : ℕ) → has new i ≡ (has forced i || (eqb i k && late tasks at k))) where
    latest_now : (i : ℕ) → next.latest i ≡ cond (eqb i k) (Some (ticked (get_or tasks k no_task) false (job at k))) (at.latest i)
    latest_now i = ap (λ (s : State). s.latest i) state

    pub delaying_more : Delaying tasks from next all less new
    delaying_more =
        let this = eq-eqb k k refl in
        let listed = d.left k here in
        record {
          clock = ap (λ (s : State). s.clock) state ∙ d.clock;
          left = λ i h. d.left i (and_parts (has rest i) (not (eqb i k)) (sym (cleared i) ∙ h)).0;
          latest = λ i.
              ⊎_elim
              (λ (same : i ≡ k).
              subst (λ (m : ℕ). next.latest m ≡ record_of tasks from m (met all less m)) (sym same)
              (simp (latest_now k, cleared k, this, listed, here, unmet)))
              (λ (other : i ≡ k → ⊥). simp (latest_now i, cleared i, ne_eqb i k other, and-true) (d.latest i))
              (cases_eq i k);
          word = λ i.
              ⊎_elim
              (λ (same : i ≡ k).
              subst (λ (m : ℕ). has new m ≡ (met all less m && late tasks from m)) (sym same)
              (simp (marked k, d.word k, cleared k, this, listed, here, unmet)))
              (λ (other : i ≡ k → ⊥). simp (marked i, cleared i, ne_eqb i k other, and-true, or-false) (d.word i))
              (cases_eq i k);
        }
