-- A number that no task has has no open job.
use Rattle.std.proofs.Common.{◌≡◌, ℕ, ◌<◌, ◌≤◌, true, false, List, length, Some, None, Option, unwrap_or, refl, subst, ⊎_elim, arith}
use Rattle.std.proofs.lemmas.List.{get_or_past}
use Rattle.std.proofs.lemmas.Bool.{and_left, and_parts, both_ways, cases_lt, le-ltb}
use Rattle.model.specs.Figures.{no_task}
use Rattle.model.specs.State.{State, is_open, is_ready, is_waiting, job, no_job}
use Rattle.model.specs.declared.figures.Figures.{Figures}
use Rattle.model.specs.declared.job.Job.{Job}
use Rattle.model.specs.declared.job.Phase.{Phase}
use Rattle.model.specs.declared.job.Phase.TheVariants.{Closed, Ready, Waiting}
use Rattle.dispatch.specs.Sound.{AllInBounds, counts_in, in_bounds}

none_open : (p : Phase) (j : Job) → counts_in p no_task j ≡ true → is_open p ≡ true → ⊥
none_open Closed j h r = both_ways false refl r
none_open Ready j h r = both_ways _ (and_left _ _ (le-ltb j.given 0 (omega arith))) h
none_open Waiting j h r = both_ways _ (and_left _ _ (le-ltb j.given 0 (omega arith))) h

none_open_of : (clock : ℕ) (o : Option Job) → in_bounds no_task clock o ≡ true → is_open (unwrap_or o no_job).phase ≡ true → ⊥
none_open_of clock None h r = both_ways false refl r
none_open_of clock (Some j) h r = none_open j.phase j (and_parts _ (counts_in j.phase no_task j) h).1 r

pub open_inside : (tasks : List Figures) (s : State) → AllInBounds tasks s → (i : ℕ) → is_open (job s i).phase ≡ true → i < length tasks
open_inside tasks s sound i r =
    ⊎_elim (λ (l : i < length tasks). l)
    (λ (l : length tasks ≤ i).
    absurd (none_open_of s.clock (s.latest i)
    (subst (λ (f : Figures). in_bounds f s.clock (s.latest i) ≡ true) (get_or_past tasks i no_task l) (sound i)) r))
    (cases_lt i (length tasks))

pub ready_opens : (p : Phase) → is_ready p ≡ true → is_open p ≡ true
ready_opens Closed h = h
ready_opens Ready h = refl
ready_opens Waiting h = refl

pub waiting_opens : (p : Phase) → is_waiting p ≡ true → is_open p ≡ true
waiting_opens Closed h = h
waiting_opens Ready h = refl
waiting_opens Waiting h = refl
