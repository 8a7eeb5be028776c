-- Where ticks come from: in any stretch of time the ticks of a task go to few of its jobs.
use Rattle.std.proofs.Common.{◌≡◌, ℕ, zero, suc, ◌+◌, ◌*◌, ◌<◌, ◌≤◌, Bool, true, false, cond, ◌&&◌, eqb, ltb, List, [], ◌∷◌, map, take, Some, None, Option, sym, refl, ap, ◌∙◌, le_trans, le_refl, suc-mul, arith}
use Rattle.std.proofs.lemmas.Bool.{and_parts, and_from, and_left, and_right, ltb-true, lt-ltb, eq-eqb}
use Rattle.std.specs.Option.{option_map}
use Rattle.std.specs.List.{AllByRecursion}
use Rattle.model.specs.Promises.{given_to}
use Rattle.model.specs.Reading.{Observed}
use Rattle.model.specs.declared.job.JobId.{JobId}
use Rattle.model.proofs.Spacing.{many}

-- The granted ticks, newest first, each with the job that it was given to, or none.
abbrev pub History : Type 0
History = List (Option JobId)

-- The tick went to a job of task i whose release passes the test.
abbrev pub went : ℕ → (ℕ → Bool) → Option JobId → Bool
went i p None = false
went i p (Some a) = eqb i a.task && p a.release

-- How many of the ticks went to jobs of task i whose release passes the test.
abbrev pub tally : ℕ → (ℕ → Bool) → History → ℕ
tally i p [] = 0
tally i p (x ∷ h) = cond (went i p x) (suc (tally i p h)) (tally i p h)

abbrev pub releases : List Observed → List ℕ
releases js = map (λ j. j.release) js

-- The ticks given to the jobs whose release passes the test.
abbrev pub supplied : (ℕ → Bool) → List Observed → ℕ
supplied q [] = 0
supplied q (j ∷ js) = cond (q j.release) (j.given + supplied q js) (supplied q js)

pub supplied_wider : (p q : ℕ → Bool) (js : List Observed) → AllByRecursion (λ j. p j.release ≡ true → q j.release ≡ true) js
    → supplied p js ≤ supplied q js
supplied_wider p q [] wider = le_refl 0
supplied_wider p q (j ∷ js) wider = go (p j.release) refl (q j.release) refl (supplied_wider p q js wider.1)
  where
    go : (b : Bool) → p j.release ≡ b → (c : Bool) → q j.release ≡ c → supplied p js ≤ supplied q js
        → supplied p (j ∷ js) ≤ supplied q (j ∷ js)
    go true e c f rest = rw (e, wider.0 e) (omega arith)
    go false e true f rest = rw (e, f) (omega arith)
    go false e false f rest = rw (e, f) rest

pub supplied_most : (q : ℕ → Bool) (most : ℕ) (js : List Observed) → AllByRecursion (λ j. j.given ≤ most) js
    → supplied q js ≤ many q (releases js) * most
supplied_most q most [] all = omega arith
supplied_most q most (j ∷ js) all = go (q j.release) refl (supplied_most q most js all.1)
  where
    go : (b : Bool) → q j.release ≡ b → supplied q js ≤ many q (releases js) * most
        → supplied q (j ∷ js) ≤ many q (releases (j ∷ js)) * most
    go true e rest = rw e (omega (arith, suc-mul (many q (releases js)) most, all.0))
    go false e rest = rw e rest

-- The jobs of a task that can still have been given one of the last w ticks, under a bound on their age.
abbrev pub recent : ℕ → ℕ → ℕ → (ℕ → Bool) → ℕ → Bool
recent bound now w p x = p x && ltb now (x + bound + w)

-- Of the last w ticks, those of a task went to jobs that were younger than the bound then.
abbrev pub Supply : ℕ → ℕ → History → ℕ → List Observed → Type 0
Supply bound now h i js = (p : ℕ → Bool) (w : ℕ) → tally i p (take w h) ≤ supplied (recent bound now w p) js

-- One tick on, the same jobs count for one tick more.
later : (bound now w : ℕ) (p : ℕ → Bool) (x : ℕ) → recent bound now w p x ≡ true → recent bound (suc now) (suc w) p x ≡ true
later bound now w p x e =
    let (passes, young) = and_parts (p x) (ltb now (x + bound + w)) e in
    and_from (p x) _ passes (lt-ltb _ _ (omega (arith, ltb-true now (x + bound + w) young)))

supplied_later : (bound now w : ℕ) (p : ℕ → Bool) (js : List Observed)
    → supplied (recent bound now w p) js ≤ supplied (recent bound (suc now) (suc w) p) js
supplied_later bound now w p js = supplied_wider _ _ js (go js)
  where
    go : (js : List Observed)
        → AllByRecursion (λ j. recent bound now w p j.release ≡ true → recent bound (suc now) (suc w) p j.release ≡ true) js
    go [] = tt
    go (j ∷ js) = (later bound now w p j.release, go js)

-- A tick for another task, or for none.
pub supply_other : (bound now i : ℕ) (h : History) (js : List Observed) (x : Option JobId) → ((p : ℕ → Bool) → went i p x ≡ false)
    → Supply bound now h i js → Supply bound (suc now) (x ∷ h) i js
supply_other bound now i h js x other supply p zero = omega arith
supply_other bound now i h js x other supply p (suc w) =
    rw (other p) (le_trans (supply p w) (supplied_later bound now w p js))

-- A tick for the latest job of the task, which is younger than the bound.
pub supply_own : (bound now i : ℕ) (h : History) (j more : Observed) (js : List Observed) (a : JobId)
    → a.task ≡ i → a.release ≡ j.release → more.release ≡ j.release → more.given ≡ j.given + 1 → now < j.release + bound
    → Supply bound now h i (j ∷ js) → Supply bound (suc now) (Some a ∷ h) i (more ∷ js)
supply_own bound now i h j more js a task release same one_more young supply p zero = omega arith
supply_own bound now i h j more js a task release same one_more young supply p (suc w) = go (p j.release) refl
  where
    go : (b : Bool) → p j.release ≡ b
        → tally i p (Some a ∷ take w h) ≤ supplied (recent bound (suc now) (suc w) p) (more ∷ js)
    go true e =
        let mine : went i p (Some a) ≡ true = and_from _ _ (eq-eqb i a.task (sym task)) (ap p release ∙ e) in
        let was : recent bound now w p j.release ≡ true = and_from _ _ e (lt-ltb _ _ (omega arith)) in
        let is : recent bound (suc now) (suc w) p more.release ≡ true = rw same (later bound now w p j.release was) in
        let before : tally i p (take w h) ≤ j.given + supplied (recent bound now w p) js = rw was at (supply p w) in
        rw (mine, is) (omega (arith, supplied_later bound now w p js))
    go false e =
        let other : went i p (Some a) ≡ false = and_right (eqb i a.task) _ (ap p release ∙ e) in
        let was : recent bound now w p j.release ≡ false = and_left _ (ltb now (j.release + bound + w)) e in
        let is : recent bound (suc now) (suc w) p more.release ≡ false = rw same (and_left _ _ e) in
        let before : tally i p (take w h) ≤ supplied (recent bound now w p) js = rw was at (supply p w) in
        rw (other, is) (le_trans before (supplied_later bound now w p js))

pub supply_most : (bound now i : ℕ) (h : History) (js : List Observed) → Supply bound now h i js
    → (most : ℕ) → AllByRecursion (λ j. j.given ≤ most) js → (p : ℕ → Bool) (w : ℕ)
    → tally i p (take w h) ≤ many (recent bound now w p) (releases js) * most
supply_most bound now i h js supply most all p w = le_trans (supply p w) (supplied_most (recent bound now w p) most js all)

-- The count of the promises is that of all releases.
pub tally_all : (i w : ℕ) (h : History) → given_to i (take w (map (option_map (λ a. a.task)) h)) ≡ tally i (λ _. true) (take w h)
tally_all i zero h = refl
tally_all i (suc w) [] = refl
tally_all i (suc w) (None ∷ h) = tally_all i w h
tally_all i (suc w) (Some a ∷ h) = go (eqb i a.task) refl (tally_all i w h)
  where
    go : (b : Bool) → eqb i a.task ≡ b → given_to i (take w (map (option_map (λ a. a.task)) h)) ≡ tally i (λ _. true) (take w h)
        → given_to i (take (suc w) (map (option_map (λ a. a.task)) (Some a ∷ h))) ≡ tally i (λ _. true) (take (suc w) (Some a ∷ h))
    go true e rest = rw e (ap suc rest)
    go false e rest = rw e rest
