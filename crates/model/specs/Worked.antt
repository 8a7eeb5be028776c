-- Eight small sets of tasks, each under a rule, with what the test answers.
use Rattle.std.specs.Prelude.{ℕ, List, [], ◌∷◌, length, ℤ, negsuc, Some, None, Option}
use Rattle.model.specs.Rules.{deadline_point, arrival_point, level_point, weighted_point}
use Rattle.model.specs.Verdict.{Admits, Refuses, first_points}
use Rattle.model.specs.declared.figures.Figures.{Figures}

-- Tasks, the point that the rule gives to each number, and the bounds and offsets that the test answers, or none.
pub record Set : Type 0 where
  pub tasks : List Figures
  pub point : ℕ → ℤ
  pub answer : Option (List ℕ × List ℕ)

-- A task by C, S, D and T.
abbrev pub task : ℕ → ℕ → ℕ → ℕ → Figures
task c s d t = record { execution = c; suspension = s; deadline = d; period = t }

abbrev pub two : {X : Type 0} → X → X → List X
two x y = x ∷ (y ∷ [])

-- The tasks of the first four sets.
abbrev pub pair : List Figures
pair = two (task 1 2 5 5) (task 1 3 7 7)

-- A set under the deadline rule.
abbrev pub by_deadline : List Figures → Option (List ℕ × List ℕ) → Set
by_deadline tasks answer = record { tasks = tasks; point = deadline_point tasks; answer = answer }

-- The fourth set stands under deadline with an S-weight of −1.
abbrev pub sets : List Set
sets =
    by_deadline pair (Some (two 4 6, two 0 0)) ∷
    (record { tasks = pair; point = arrival_point; answer = Some (two 4 5, two 0 0) } ∷
    (record { tasks = pair; point = level_point pair; answer = Some (two 3 6, two 0 0) } ∷
    (record {
      tasks = pair;
      point = weighted_point (λ f. f.suspension) pair (negsuc 0) (deadline_point pair);
      answer = Some (two 4 5, two 0 0);
    } ∷
    (by_deadline (two (task 4 0 10 10) (task 2 0 18 20)) (Some (two 4 8, two 0 2)) ∷
    (by_deadline (two (task 3 0 6 6) (task 10 0 20 20)) None ∷
    (by_deadline (task 2 3 5 9 ∷ []) (Some (5 ∷ [], 0 ∷ [])) ∷
    (by_deadline (task 2 3 4 9 ∷ []) None ∷ [])))))))

-- The answer is right for these tasks and points.
abbrev pub Answered : List Figures → List ℤ → Option (List ℕ × List ℕ) → Type 0
Answered tasks points (Some (bounds, offsets)) = Admits tasks points bounds offsets
Answered tasks points None = Refuses tasks points

-- The answers of all sets are right.
abbrev pub AllAnswered : List Set → Type 0
AllAnswered [] = Unit {0}
AllAnswered (s ∷ ss) = Answered s.tasks (first_points s.point (length s.tasks)) s.answer × AllAnswered ss
