-- Adding to a table, where no check refuses.
use Rattle.std.proofs.Common.{◌≡◌, ◌+◌, ◌<◌, ◌≤◌, false, eqb, ltb, leb, List, [], ◌∷◌, ◌++◌, length, Ok, sym, subst, ⊎_elim, arith}
use Rattle.std.proofs.lemmas.List.{get_or_append_left, get_or_push, length_push}
use Rattle.std.proofs.lemmas.Bool.{cases_lt}
use Rattle.std.proofs.lemmas.Bool.Decides.{nat_tests}
use Rattle.model.specs.Figures.{Fit, AllFit, most_tasks, no_task}
use Rattle.model.specs.Tables.{add}
use Rattle.model.specs.declared.figures.Figures.{Figures}

pub add_granted : (tasks : List Figures) (f : Figures) → length tasks < most_tasks → Fit f → add tasks f ≡ (
  Ok
      (length tasks),
  tasks ++ f ∷ [],
)
add_granted tasks f room fit =
    let a : leb most_tasks (length tasks) ≡ false = grind (arith, nat_tests) in
    let b : eqb f.execution 0 ≡ false = grind (arith, nat_tests) in
    let c : eqb f.deadline 0 ≡ false = grind (arith, nat_tests) in
    let d : ltb f.period f.deadline ≡ false = grind (arith, nat_tests) in
    simp (a, b, c, d)

pub all_fit_push : (tasks : List Figures) (f : Figures) → AllFit tasks → Fit f → AllFit (tasks ++ f ∷ [])
all_fit_push tasks f all fit k h =
    let below : k < length tasks + 1 = rw length_push at h in
    ⊎_elim (λ (l : k < length tasks). rw get_or_append_left (all k l))
    (λ (l : length tasks ≤ k). subst Fit (sym (get_or_push tasks f no_task k (omega arith))) fit) (cases_lt k (length tasks))
