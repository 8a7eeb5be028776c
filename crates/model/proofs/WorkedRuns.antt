-- Worked runs: the law speaks of them, or a weaker test is misled by them. Each is settled by tests that compute.
use Rattle.std.proofs.Common.{◌≡◌, ℕ, ◌<◌, ◌≤◌, Bool, true, false, cond, ◌&&◌, ltb, leb, List, length, get_or, ℤ, pos, sym, refl, arith}
use lib.ListN.{get_or-map}
use Rattle.std.proofs.lemmas.Int.{ints}
use Rattle.std.proofs.lemmas.Bool.{and_parts, leb-true, lt-ltb, ltb-true}
use Rattle.model.specs.Figures.{Fit, Tasks, no_task, most_tasks}
use Rattle.model.specs.Orders.{InRange, Lawful, farthest}
use Rattle.model.specs.Processor.{every_below}
use Rattle.model.specs.Promises.{Promises}
use Rattle.model.specs.Reading.{Reading}
use Rattle.model.specs.Rules.{deadline_point}
use Rattle.model.specs.RunLaw.{EveryRun}
use Rattle.model.specs.Test.{Warrant, count, total}
use Rattle.model.specs.TighterLaws.{Fewer, FewerLaw, Younger, YoungerLaw}
use Rattle.model.specs.WeakerTests.{Misled, accepts, late_comer, total_by, two_ticks, waiter}
use Rattle.model.specs.WeakerTests.{count_rounded_down, count_without_bound, needs, needs_one_less, needs_without_suspension}
use Rattle.model.specs.WorkedRuns.{Covered, Run, by_deadline, deadlines, late_calls, light, longest_response, shown}
use Rattle.model.specs.declared.call.Call.{Call}
use Rattle.model.specs.declared.figures.Figures.{Figures}
use Rattle.model.proofs.Orders.{bottom_lawful}
use Rattle.model.proofs.Processor.{every_true}

-- The figures fit a task, and D is in the range of points.
abbrev fits : Figures → Bool
fits f = leb 1 f.execution && (leb 1 f.deadline && (leb f.deadline f.period && leb f.deadline farthest))

abbrev all_fit : List Figures → Bool
all_fit tasks = leb (length tasks) most_tasks && every_below (length tasks) (λ k. fits (get_or tasks k no_task))

fits_is : (f : Figures) → fits f ≡ true → Fit f × (f.deadline ≤ farthest)
fits_is f e =
    let (runs, rest) = and_parts (leb 1 f.execution) _ e in
    let (due, rest) = and_parts (leb 1 f.deadline) _ rest in
    let (apart, near) = and_parts (leb f.deadline f.period) _ rest in
    ((leb-true _ _ runs, leb-true _ _ due, leb-true _ _ apart), leb-true _ _ near)

module _ (tasks : List Figures) (e : all_fit tasks ≡ true) where
  each : (k : ℕ) → k < length tasks → Fit (get_or tasks k no_task) × ((get_or tasks k no_task).deadline ≤ farthest)
  each k l =
      fits_is (get_or tasks k no_task)
      (every_true (length tasks) (λ k. fits (get_or tasks k no_task)) (and_parts (leb (length tasks) most_tasks) _ e).1 k l)

  fitting : Tasks tasks
  fitting = (leb-true _ _ (and_parts (leb (length tasks) most_tasks) _ e).0, λ k l. (each k l).0)

  deadline_lawful : Lawful (deadline_point tasks) (by_deadline tasks)
  deadline_lawful = bottom_lawful (deadline_point tasks) (λ k. go k (ltb k (length tasks)) refl)
    where
      go : (k : ℕ) (b : Bool) → ltb k (length tasks) ≡ b → InRange (cond b (pos (get_or tasks k no_task).deadline) (pos 0))
      go k true l = let near = (each k (ltb-true _ _ l)).1 in record { low = omega (arith, ints); high = omega (arith, ints) }
      go k false l = record { low = omega (arith, ints); high = omega (arith, ints) }

  deadlines_are : (k : ℕ) → k < length tasks → deadline_point tasks k ≡ get_or (deadlines tasks) k (pos 0)
  deadlines_are k l = rw (lt-ltb k (length tasks) l) (sym (get_or-map (λ (f : Figures). pos f.deadline) tasks k no_task))

  -- Bounds that are accepted at offset 0 are a warrant.
  warranted : (points : List ℤ) (bounds : List ℕ) → length bounds ≡ length tasks
      → accepts (total tasks points bounds) tasks bounds ≡ true → Warrant tasks points bounds
  warranted points bounds same accepted =
      record {
        one_each = same;
        positive = λ k l. (at k l).0;
        in_time = λ k l. (at k l).1;
        covered = λ k l. (0, (fitting.1 k l).1, (at k l).2);
      }
    where
      at : (k : ℕ) → k < length tasks
          → (1 ≤ get_or bounds k 0) × (get_or bounds k 0 ≤ (get_or tasks k no_task).deadline) × (total tasks points bounds k 0 ≤ get_or bounds k 0)
      at k l =
          let (positive, rest) = and_parts (leb 1 (get_or bounds k 0)) _ (every_true (length tasks) _ accepted k l) in
          let (in_time, covered) = and_parts (leb (get_or bounds k 0) (get_or tasks k no_task).deadline) _ rest in
          (leb-true _ _ positive, leb-true _ _ in_time, leb-true _ _ covered)

light_warrant : Warrant light (deadlines light) longest_response.bounds
light_warrant = warranted light refl (deadlines light) longest_response.bounds refl refl

pub longest_response_covered : Covered longest_response
longest_response_covered =
    record {
      allowed = fitting light refl;
      warrant = light_warrant;
      lawful = deadline_lawful light refl;
      points = deadlines_are light refl;
    }

-- What holds of every run holds of the worked one, with any calls.
worked : (Promise : List Figures → List ℕ → Reading → Type 0) → EveryRun Promise → (calls : List Call)
    → Promise light longest_response.bounds (shown (record { tasks = light; bounds = longest_response.bounds; calls = calls }))
worked Promise law calls =
    law light (deadlines light) longest_response.bounds (fitting light refl) light_warrant
    (deadline_point light) (by_deadline light) (deadline_lawful light refl) (deadlines_are light refl) calls

pub not_younger : YoungerLaw → ⊥
not_younger law = let (old, _) = worked Younger law late_calls 0 (omega arith) in omega arith

pub not_fewer : FewerLaw → ⊥
not_fewer law = let few = worked Fewer law longest_response.calls 0 (omega arith) 0 1 (omega arith) in omega arith

-- A run in which a job of task 0 is as old as its bound misleads a test that accepts the bounds.
misled : (own : Figures → ℕ) (other : ℤ → ℤ → ℕ → ℕ → ℕ → ℕ) (run : Run) → all_fit run.tasks ≡ true
    → accepts (total_by own other run.tasks (deadlines run.tasks) run.bounds) run.tasks run.bounds ≡ true
    → (Promises run.tasks run.bounds (shown run) → ⊥) → Misled own other run
misled own other run fit accepted broken =
    record { allowed = fitting run.tasks fit; lawful = deadline_lawful run.tasks fit; accepted = accepted; broken = broken }

pub without_suspension_misled : Misled needs_without_suspension count waiter
without_suspension_misled = misled _ _ waiter refl refl (λ p. let (old, _) = p.response 0 (omega arith) in omega arith)

pub one_less_misled : Misled needs_one_less count two_ticks
one_less_misled = misled _ _ two_ticks refl refl (λ p. let (old, _) = p.response 0 (omega arith) in omega arith)

late : Promises late_comer.tasks late_comer.bounds (shown late_comer) → ⊥
late p = let (old, _) = p.response 0 (omega arith) in omega arith

pub without_bound_misled : Misled needs count_without_bound late_comer
without_bound_misled = misled _ _ late_comer refl refl late

pub rounded_down_misled : Misled needs count_rounded_down late_comer
rounded_down_misled = misled _ _ late_comer refl refl late
