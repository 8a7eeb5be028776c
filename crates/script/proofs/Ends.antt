-- The end records are the ended jobs of the reading.
use Rattle.std.proofs.Common.{◌≡◌, ℕ, ◌≤◌, Bool, true, false, cond, ◌||◌, eqb, List, [], ◌∷◌, ◌++◌, length, ℤ, Some, None, Option, unwrap_or, sym, refl, ap, ◌∙◌, subst, ⊎_elim, append-nil, arith, Ok, Err, Result}
use Rattle.std.proofs.ByRecursion.{All-append, All-weaker}
use Rattle.std.proofs.lemmas.Bool.{and_parts, both_ways, cases_eq, eq-eqb, false≢true, ne_eqb}
use Rattle.std.specs.Option.{option_map}
use Rattle.std.specs.List.{AllByRecursion}
use Rattle.model.proofs.Books.{Agrees, none_open, on_latest}
use Rattle.model.proofs.Kept.{Kept}
use Rattle.model.proofs.Sound.{bound, figures}
use Rattle.model.specs.Reading.{Reading, Observed, Fate, still_open, by_tick, by_finish, undecided, any_open, on_earliest}
use Rattle.model.specs.Reading.{finished, for_earliest, given_one, now, read, with_supply}
use Rattle.model.specs.State.{State, job, no_job}
use Rattle.model.specs.declared.call.Answer.{Answer}
use Rattle.model.specs.declared.call.Answer.TheVariants.{Released, Waits, Woken, Finished, Passed}
use Rattle.model.specs.declared.call.Call.{Call}
use Rattle.model.specs.declared.call.Call.TheVariants.{Release, Wait, Wake, Finish, Tick}
use Rattle.model.specs.declared.figures.Figures.{Figures}
use Rattle.model.specs.declared.job.Job.{Job}
use Rattle.model.specs.declared.refusal.Refusal.{Refusal}
use Rattle.script.specs.RecordLaw.{Ascend, EndsAre, end_shown, ends_shown, records_of}
use Rattle.script.specs.Sessions.{end_of, ended_by}
use Rattle.script.specs.declared.records.Cause.TheVariants.{Count}
use Rattle.script.specs.declared.records.EndRecord.{EndRecord}
use Rattle.script.proofs.Noted.{listed, ticks_grow}

-- The records of one task among more records, and the end that one job of a task shows.
records_of_more : (task : ℕ) (xs ys : List EndRecord) → records_of task (xs ++ ys) ≡ records_of task xs ++ records_of task ys
records_of_more task [] ys = refl
records_of_more task (x ∷ xs) ys = go (eqb x.task task) (records_of_more task xs ys)
  where
    go : (b : Bool) → records_of task (xs ++ ys) ≡ records_of task xs ++ records_of task ys
        → cond b (x ∷ records_of task (xs ++ ys)) (records_of task (xs ++ ys))
        ≡ cond b (x ∷ records_of task xs) (records_of task xs) ++ records_of task ys
    go true e = ap (λ (es : List EndRecord). x ∷ es) e
    go false e = e

own_end : (task release given : ℕ) (fate : Fate) → records_of task (end_shown task release given fate) ≡ end_shown task release given fate
own_end task release given still_open = refl
own_end task release given (by_tick end) = rw (eq-eqb task task refl)
own_end task release given (by_finish end answered) = rw (eq-eqb task task refl)

other_end : (i task release given : ℕ) (fate : Fate) → (task ≡ i → ⊥) → records_of i (end_shown task release given fate) ≡ []
other_end i task release given still_open apart = refl
other_end i task release given (by_tick end) apart = rw (ne_eqb task i apart)
other_end i task release given (by_finish end answered) apart = rw (ne_eqb task i apart)

-- Where all jobs but the latest have ended, one that is open is the latest; a change that decides its fate adds the end that the
-- latest job in the state then shows.
open_latest : (fate : Fate) (others : Bool) → others ≡ false → (undecided fate || others) ≡ true → fate ≡ still_open
open_latest still_open others none found = refl
open_latest (by_tick end) others none found = absurd (both_ways others none found)
open_latest (by_finish end answered) others none found = absurd (both_ways others none found)

module _ (f : Figures) (limit task : ℕ) (change : Observed → Observed) (fate : Fate)
    (decides : (k : Observed) → k.fate ≡ still_open → (change k).fate ≡ fate) where
  changed : (was is : ℕ) (o o' : Option Job) (js : List Observed) → Agrees f limit was o js → any_open js ≡ true
      → Agrees f limit is o' (on_earliest change js)
      → ends_shown task (on_earliest change js)
      ≡ ends_shown task js ++ end_shown task (unwrap_or o' no_job).release (unwrap_or o' no_job).given fate
  changed was is None o' [] agrees found after = absurd (false≢true found)
  changed was is None o' (k ∷ ks) agrees found after = absurd agrees
  changed was is (Some j) o' [] agrees found after = absurd agrees
  changed was is (Some j) o' (k ∷ ks) (m, all) found after =
      rw (on_latest change k ks still none) (go o' (subst (Agrees f limit is o') (on_latest change k ks still none) after))
    where
      none : any_open ks ≡ false
      none = none_open f limit ks all

      still : k.fate ≡ still_open
      still = open_latest k.fate (any_open ks) none found

      go : (o' : Option Job) → Agrees f limit is o' (change k ∷ ks)
          → ends_shown task (change k ∷ ks)
          ≡ ends_shown task (k ∷ ks) ++ end_shown task (unwrap_or o' no_job).release (unwrap_or o' no_job).given fate
      go None after = absurd after
      go (Some j') (m', _) = rw (decides k still, m'.release, m'.given, still, append-nil (ends_shown task ks))

-- The ends that jobs show are those that other jobs show, and these records.
abbrev Shown : (ℕ → List Observed) → (ℕ → List Observed) → List EndRecord → Type 0
Shown was is new = (i : ℕ) → ends_shown i (is i) ≡ ends_shown i (was i) ++ records_of i new

unchanged : (jobs : ℕ → List Observed) → Shown jobs jobs []
unchanged jobs i = sym (append-nil (ends_shown i (jobs i)))

-- Where the jobs of one task change, the records are of that task.
one_changed : (jobs : ℕ → List Observed) (task : ℕ) (own : List Observed) (new : List EndRecord)
    → ends_shown task own ≡ ends_shown task (jobs task) ++ records_of task new → ((i : ℕ) → (task ≡ i → ⊥) → records_of i new ≡ [])
    → Shown jobs (λ i. cond (eqb i task) own (jobs i)) new
one_changed jobs task own new here others i =
    ⊎_elim
    (λ (e : task ≡ i). subst (λ t. ends_shown t (cond (eqb t task) own (jobs t)) ≡ ends_shown t (jobs t) ++ records_of t new) e
    (rw (eq-eqb task task refl) here))
    (λ (apart : task ≡ i → ⊥). rw (ne_eqb i task (λ e. apart (sym e)), others i apart) (unchanged jobs i))
    (cases_eq task i)

-- What a call adds to the ends that the reading shows is the end that its answer brings: by a change to the open job of a task, by
-- a tick, and by every call.
module _ {tasks : List Figures} {bounds : List ℕ} {point : ℕ → ℤ} {s after : State} {r : Reading}
    (kept : Kept tasks bounds point s r) where
  decided : (ticks : List (Option ℕ)) (task : ℕ) (change : Observed → Observed) (fate : Fate)
      → ((k : Observed) → k.fate ≡ still_open → (change k).fate ≡ fate)
      → Kept tasks bounds point after (for_earliest task change (record { ticks = ticks; jobs = r.jobs; whole = r.whole }))
      → Shown r.jobs (λ i. cond (eqb i task) (on_earliest change (r.jobs task)) (r.jobs i))
      (end_shown task (job after task).release (job after task).given fate)
  decided ticks task change fate decides kept' =
      one_changed r.jobs task (on_earliest change (r.jobs task)) (end_shown task _ _ fate)
      (changed (figures tasks task) (bound bounds task) task change fate decides (now r) (length ticks) (s.latest task)
      (after.latest task) (r.jobs task) (kept.sound task).agrees (and_parts _ _ kept'.whole).1
      (rw (eq-eqb task task refl) at (kept'.sound task).agrees)
      ∙ ap (λ es. ends_shown task (r.jobs task) ++ es) (sym (own_end task _ _ fate)))
      (λ i apart. other_end i task _ _ fate apart)

  supplied : (ticks : List (Option ℕ)) (ran : Option ℕ) (ended : Bool)
      → Kept tasks bounds point after (with_supply ran ended (record { ticks = ticks; jobs = r.jobs; whole = r.whole }))
      → Shown r.jobs (with_supply ran ended (record { ticks = ticks; jobs = r.jobs; whole = r.whole })).jobs
      (listed (cond ended (option_map (λ task. end_of task Count after) ran) None))
  supplied ticks None true kept' = unchanged r.jobs
  supplied ticks None false kept' = unchanged r.jobs
  supplied ticks (Some task) true kept' =
      decided ticks task (given_one (length ticks) true) (by_tick after.clock) (λ k _. ap by_tick kept'.clock) kept'
  supplied ticks (Some task) false kept' = decided ticks task (given_one (length ticks) false) still_open (λ k still. still) kept'

  answer_shown : (c : Call) (answer : Result Answer Refusal) → Kept tasks bounds point after (read c answer r)
      → Shown r.jobs (read c answer r).jobs (listed (ended_by answer after))
  answer_shown (Release task) (Ok (Released clock)) kept' = one_changed r.jobs task _ [] refl (λ _ _. refl)
  answer_shown Wait (Ok (Released clock)) kept' = unchanged r.jobs
  answer_shown (Wake task) (Ok (Released clock)) kept' = unchanged r.jobs
  answer_shown Finish (Ok (Released clock)) kept' = unchanged r.jobs
  answer_shown Tick (Ok (Released clock)) kept' = unchanged r.jobs
  answer_shown c (Ok (Waits task)) kept' = unchanged r.jobs
  answer_shown c (Ok (Woken waited)) kept' = unchanged r.jobs
  answer_shown c (Ok (Finished e)) kept' =
      decided r.ticks e.task (finished (now r) e) (by_finish after.clock e)
      (λ k _. ap (λ end. by_finish end e) kept'.clock) kept'
  answer_shown c (Ok (Passed t)) kept' = supplied (t.ran ∷ r.ticks) t.ran t.ended kept'
  answer_shown c (Err why) kept' = unchanged r.jobs

-- The end that a call brings is at the clock after it, and no end before it is later.
ended_now : (answer : Result Answer Refusal) (s : State) → AllByRecursion (λ e. e.end ≡ s.clock) (listed (ended_by answer s))
ended_now (Ok (Released clock)) s = tt
ended_now (Ok (Waits task)) s = tt
ended_now (Ok (Woken waited)) s = tt
ended_now (Ok (Finished e)) s = (refl, tt)
ended_now (Ok (Passed t)) s = go t.ran t.ended
  where
    go : (ran : Option ℕ) (ended : Bool)
        → AllByRecursion (λ e. e.end ≡ s.clock) (listed (cond ended (option_map (λ task. end_of task Count s) ran) None))
    go None true = tt
    go None false = tt
    go (Some task) true = (refl, tt)
    go (Some task) false = tt
ended_now (Err why) s = tt

ascend_more : (clock later : ℕ) (es new : List EndRecord) → clock ≤ later → AllByRecursion (λ e. e.end ≤ later) es
    → AllByRecursion (λ e. e.end ≡ later) new → Ascend clock es → Ascend clock (es ++ new)
ascend_more clock later [] [] l past at order = tt
ascend_more clock later [] (e ∷ new) l past at order =
    (omega (arith, at.0), ascend_more e.end later [] new (omega (arith, at.0)) tt at.1 tt)
ascend_more clock later (e ∷ es) new l past at order =
    (order.0, ascend_more e.end later es new past.0 past.1 at order.1)

-- The end records are the ended jobs, and none is later than the reading.
pub record Recorded (r : Reading) (ends : List EndRecord) : Type 0 where
  pub ends_are : EndsAre r ends
  pub past : AllByRecursion (λ e. e.end ≤ now r) ends

pub ends_go : {tasks : List Figures} {bounds : List ℕ} {point : ℕ → ℤ} {s after : State} {r : Reading} {ends : List EndRecord}
    → Kept tasks bounds point s r → (c : Call) (answer : Result Answer Refusal) → Kept tasks bounds point after (read c answer r)
    → Recorded r ends → Recorded (read c answer r) (ends ++ listed (ended_by answer after))
ends_go {after} {r} {ends} kept c answer kept' rec =
    record {
      ends_are = record {
        exactly = λ i. records_of_more i ends new
            ∙ ap (λ es. es ++ records_of i new) (rec.ends_are.exactly i) ∙ sym (answer_shown kept c answer kept' i);
        in_order = ascend_more 0 (now (read c answer r)) ends new (omega arith) past at rec.ends_are.in_order;
      };
      past = All-append _ ends new past (All-weaker _ _ (λ e here. omega arith) new at);
    }
  where
    new : List EndRecord
    new = listed (ended_by answer after)

    past : AllByRecursion (λ e. e.end ≤ now (read c answer r)) ends
    past = All-weaker _ _ (λ e here. omega (arith, ticks_grow c answer r)) ends rec.past

    at : AllByRecursion (λ e. e.end ≡ now (read c answer r)) new
    at = All-weaker _ _ (λ e here. here ∙ sym kept'.clock) new (ended_now answer after)
