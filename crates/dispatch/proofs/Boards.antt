-- The board of a new run, and a state in which one record changed.
use Rattle.std.proofs.Common.{◌≡◌, ℕ, zero, suc, ◌<◌, Bool, false, cond, eqb, List, length, get_or, set, replicate, Some, None, Option, sym, refl, ap, ◌∙◌, subst, arith}
use mathlib.Core.Path.{fun_ext}
use Rattle.std.proofs.lemmas.Grind.{common_steps}
use Rattle.std.proofs.lemmas.Bool.Decides.{nat_tests}
use Rattle.model.specs.Figures.{most_tasks}
use Rattle.model.specs.State.{State, put, start}
use Rattle.model.specs.declared.figures.Figures.{Figures}
use Rattle.model.specs.declared.job.Job.{Job}
use Rattle.model.specs.declared.job.Phase.{Phase}
use Rattle.model.specs.declared.job.Phase.TheVariants.{Closed}
use Rattle.words.proofs.Digits.{has_zero}
use Rattle.dispatch.specs.Sound.{AllInBounds, WordOf, state_at}

-- An element after one was set.
pub get_or_set : {A : Type 0} (xs : List A) (k : ℕ) (x d : A) (i : ℕ) → k < length xs → get_or (set xs k x) i d ≡ cond (eqb i k) x (get_or xs i d)
get_or_set xs k x d i h = grind (arith, common_steps, nat_tests)

pub state_is : (m n : ℕ) (f g : ℕ → Option Job) → m ≡ n → ((i : ℕ) → f i ≡ g i) → ◌≡◌ {A = State} (record { clock = m; latest = f })
    (record { clock = n; latest = g })
state_is m n f g p q =
    let made : ℕ → (ℕ → Option Job) → State = λ c l. record { clock = c; latest = l } in
    ap (λ (c : ℕ). made c f) p ∙ ap (made n) (fun_ext q)

-- No record of a new board holds a job.
none_at : (n i : ℕ) → ◌≡◌ {A = Option Job} (get_or (replicate n None) i None) None
none_at zero i = refl
none_at (suc n) zero = refl
none_at (suc n) (suc i) = none_at n i

pub new_state : state_at 0 (replicate most_tasks None) ≡ start
new_state = state_is 0 0 (λ i. get_or (replicate most_tasks None) i None) (λ i. None) refl (none_at most_tasks)

pub new_in_bounds : (tasks : List Figures) → AllInBounds tasks (state_at 0 (replicate most_tasks None))
new_in_bounds tasks = subst (AllInBounds tasks) (sym new_state) (λ i. refl)

pub new_word : (test : Phase → Bool) → test Closed ≡ false → WordOf test (state_at 0 (replicate most_tasks None)) 0
new_word test closed = subst (λ (s : State). WordOf test s 0) (sym new_state) (λ i. has_zero i ∙ sym closed)

-- A record that is set is a job that is put.
pub set_state : (clock : ℕ) (jobs : List (Option Job)) (task : ℕ) (j : Job) → task < length jobs
    → state_at clock (set jobs task (Some j)) ≡ put task j (state_at clock jobs)
set_state clock jobs task j h =
    state_is clock clock (λ i. get_or (set jobs task (Some j)) i None) (put task j (state_at clock jobs)).latest refl (λ i. get_or_set
    jobs task (Some j) None i h)
