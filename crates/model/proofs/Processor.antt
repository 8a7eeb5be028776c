-- The job with the processor is the ready job that goes before all others, and there is one if any job is ready.
use Rattle.std.proofs.Common.{◌≡◌, ℕ, zero, suc, ◌<◌, ◌≤◌, Bool, true, false, not, ◌||◌, eqb, ◌⊎◌, List, length, ℤ, Some, None, Option, sym, refl, ap, ◌∙◌, subst, inl, inr, ⊎_elim, arith}
use Rattle.std.proofs.lemmas.Bool.{cases_lt, cases_eq, and_parts, and_from, both_ways, eqb-false, ne_eqb}
use Rattle.std.specs.Option.{option_or}
use Rattle.std.specs.Bool.{then_some}
use Rattle.model.specs.Orders.{Lawful}
use Rattle.model.specs.Processor.{every_below, first_below, foremost, processor}
use Rattle.model.specs.ProcessorLaw.{Foremost, Rightful, ProcessorLaw}
use Rattle.model.specs.State.{State, job, identity, is_ready}
use Rattle.model.specs.declared.figures.Figures.{Figures}
use Rattle.model.specs.declared.job.JobId.{JobId}

-- What holds below n and at n holds below n + 1.
pub one_more : {P : ℕ → Type 0} (n j : ℕ) → ((k : ℕ) → k < n → P k) → P n → j < suc n → P j
one_more {P} n j below here in' =
    ⊎_elim (λ (l : j < n). below j l) (λ (l : n ≤ j). subst P (omega arith) here) (cases_lt j n)

pub every_true : (n : ℕ) (test : ℕ → Bool) → every_below n test ≡ true → (j : ℕ) → j < n → test j ≡ true
every_true zero test e j in' = absurd (omega arith)
every_true (suc n) test e j in' =
    let (below, here) = and_parts (every_below n test) (test n) e in
    one_more n j (every_true n test below) here in'

every_from : (n : ℕ) (test : ℕ → Bool) → ((j : ℕ) → j < n → test j ≡ true) → every_below n test ≡ true
every_from zero test all = refl
every_from (suc n) test all = and_from _ _ (every_from n test (λ j l. all j (omega arith))) (all n (omega arith))

-- The first number below n that passes, or that none does.
abbrev First : ℕ → (ℕ → Bool) → Option ℕ → Type 0
First n test None = (j : ℕ) → j < n → test j ≡ false
First n test (Some i) = (i < n) × (test i ≡ true)

first_is : (n : ℕ) (test : ℕ → Bool) → First n test (first_below n test)
first_is zero test = λ j in'. absurd (omega arith)
first_is (suc n) test = go (first_below n test) (first_is n test) (test n) refl
  where
    go : (o : Option ℕ) → First n test o → (b : Bool) → test n ≡ b → First (suc n) test (option_or o (then_some b n))
    go None none true e = (omega arith, e)
    go None none false e = λ j in'. one_more n j none e in'
    go (Some i) (in', passes) b e = (omega arith, passes)

module _ {point : ℕ → ℤ} {before : JobId → JobId → Bool} (lawful : Lawful point before) (s : State) where
  abbrev ready : ℕ → Type 0
  ready i = is_ready (job s i).phase ≡ true

  abbrev goes_before : ℕ → ℕ → Type 0
  goes_before i j = before (identity s i) (identity s j) ≡ true

  -- Of the tasks below n, this one has a ready job that goes before every other ready job.
  abbrev Leads : ℕ → ℕ → Type 0
  Leads n i = (i < n) × ready i × ((j : ℕ) → j < n → ready j → (j ≡ i → ⊥) → goes_before i j)

  abbrev Idle : ℕ → Type 0
  Idle n = (j : ℕ) → j < n → is_ready (job s j).phase ≡ false

  other_way : (i j : ℕ) → (i ≡ j → ⊥) → before (identity s i) (identity s j) ≡ false → goes_before j i
  other_way i j apart e =
      lawful.exactly_one (identity s j) (identity s i) (λ same. apart (sym (ap (λ (a : JobId). a.task) same))) ∙ ap not e

  -- A ready job more, behind the one that leads or before it.
  joins : (n i : ℕ) → Leads n i → ready n → (i' : ℕ) × Leads (suc n) i'
  joins n i (in', its, first) here = go (before (identity s i) (identity s n)) refl
    where
      go : (b : Bool) → before (identity s i) (identity s n) ≡ b → (i' : ℕ) × Leads (suc n) i'
      go true e = (i, (omega arith, its, λ j l. one_more n j first (λ _ _. e) l))
      go false e =
          let ahead = other_way i n (omega arith) e in
          let beyond : (j : ℕ) → j < n → ready j → (j ≡ n → ⊥) → goes_before n j =
          λ j l r _. ⊎_elim (λ (same : j ≡ i). subst (goes_before n) (sym same) ahead)
          (λ apart. lawful.transitive (identity s n) (identity s i) (identity s j) ahead (first j l r apart)) (cases_eq j i) in
          (n, (omega arith, here, λ j l. one_more n j beyond (λ _ apart. absurd (apart refl)) l))

  leader : (n : ℕ) → Idle n ⊎ ((i : ℕ) × Leads n i)
  leader zero = inl (λ j l. absurd (omega arith))
  leader (suc n) = go (leader n) (is_ready (job s n).phase) refl
    where
      go : Idle n ⊎ ((i : ℕ) × Leads n i) → (b : Bool) → is_ready (job s n).phase ≡ b → Idle (suc n) ⊎ ((i : ℕ) × Leads (suc n) i)
      go (inl idle) true e =
          let none : (j : ℕ) → j < n → ready j → (j ≡ n → ⊥) → goes_before n j = λ j l r _. absurd (both_ways _ (idle j l) r) in
          inr (n, (omega arith, e, λ j l. one_more n j none (λ _ apart. absurd (apart refl)) l))
      go (inl idle) false e = inl (λ j l. one_more n j idle e l)
      go (inr (i, leads)) true e = inr (joins n i leads e)
      go (inr (i, (in', its, first))) false e =
          inr (i, (omega arith, its, λ j l. one_more n j first (λ r _. absurd (both_ways _ e r)) l))

module _ (point : ℕ → ℤ) (before : JobId → JobId → Bool) (lawful : Lawful point before) (tasks : List Figures) (s : State) where
  -- The test that defines the processor, and what it says.
  foremost_from : (i : ℕ) → Leads lawful s (length tasks) i → foremost tasks before s i ≡ true
  foremost_from i (in', its, first) =
      and_from _ _ its (every_from (length tasks) _ (λ j l. go j l (eqb j i) refl (is_ready (job s j).phase) refl))
    where
      go : (j : ℕ) → j < length tasks → (b : Bool) → eqb j i ≡ b → (c : Bool) → is_ready (job s j).phase ≡ c
          → (b || (not c || before (identity s i) (identity s j))) ≡ true
      go j l true e c f = refl
      go j l false e true f = first j l f (eqb-false j i e)
      go j l false e false f = refl

  foremost_is : (i : ℕ) → i < length tasks → foremost tasks before s i ≡ true → Foremost tasks before s i
  foremost_is i in' e =
      let (its, all) = and_parts (is_ready (job s i).phase) _ e in
      record { of_the_set = in'; ready = its; first = λ j l r apart. go j r apart (every_true (length tasks) _ all j l) }
    where
      go : (j : ℕ) → ready lawful s j → (j ≡ i → ⊥)
          → (eqb j i || (not (is_ready (job s j).phase) || before (identity s i) (identity s j))) ≡ true
          → goes_before lawful s i j
      go j r apart e = rw (ne_eqb j i apart, r) at e

  rightful : Rightful tasks before s (processor tasks before s)
  rightful = go (processor tasks before s) (first_is (length tasks) (foremost tasks before s))
    where
      go : (o : Option ℕ) → First (length tasks) (foremost tasks before s) o → Rightful tasks before s o
      go None none = ⊎_elim (λ idle. idle) (λ (i, leads). absurd (both_ways _ (none i leads.0) (foremost_from i leads)))
          (leader lawful s (length tasks))
      go (Some i) (in', passes) = foremost_is i in' passes

  foremost_runs : (i : ℕ) → Foremost tasks before s i → processor tasks before s ≡ Some i
  foremost_runs i f = go (processor tasks before s) rightful
    where
      go : (o : Option ℕ) → Rightful tasks before s o → o ≡ Some i
      go None idle = absurd (both_ways _ (idle i f.of_the_set) f.ready)
      go (Some j) g = ⊎_elim (λ (e : j ≡ i). ap Some e) (λ apart. absurd (clash apart)) (cases_eq j i)
        where
          clash : (j ≡ i → ⊥) → ⊥
          clash apart =
              let ahead = f.first j g.of_the_set g.ready apart in
              let behind = g.first i f.of_the_set f.ready (λ e. apart (sym e)) in
              let e = lawful.exactly_one (identity s i) (identity s j) (λ same. apart (sym (ap (λ (a : JobId). a.task) same))) in
              both_ways _ (e ∙ ap not behind) ahead

pub processor_law : ProcessorLaw
processor_law point before lawful tasks s = (rightful point before lawful tasks s, foremost_runs point before lawful tasks s)
