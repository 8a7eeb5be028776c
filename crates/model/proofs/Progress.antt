-- Nobody waits for nothing: every tick of an open job is its own, or one that it waits, or one of a job that does not come after it.
use Rattle.std.proofs.Common.{◌≡◌, ℕ, zero, suc, ◌+◌, ◌<◌, ◌≤◌, Bool, true, false, cond, not, eqb, ◌∷◌, take, ℤ, Some, Option, refl, ap, ◌∙◌, subst, le_refl, arith}
use lib.Signed.{le_z}
use Rattle.std.proofs.lemmas.Int.{ints}
use Rattle.std.proofs.lemmas.Bool.{cond_both, both_ways, eq-eqb, ne_eqb}
use Rattle.model.specs.Orders.{Lawful, priority}
use Rattle.model.specs.State.{is_open}
use Rattle.model.specs.Sums.{sum_to}
use Rattle.model.specs.declared.job.Job.{Job}
use Rattle.model.specs.declared.job.JobId.{JobId}
use Rattle.model.proofs.Sums.{sum_to_mono, sum_to_more}
use Rattle.model.proofs.Supply.{History, tally, went}

-- The priority point of the first job is at most that of the second.
abbrev pub no_later : (ℕ → ℤ) → JobId → JobId → Bool
no_later point a b = le_z (priority point a) (priority point b)

-- A job of task i released at x does not come after this one.
abbrev pub ahead : (ℕ → ℤ) → JobId → ℕ → ℕ → Bool
ahead point a i x = no_later point (record { task = i; release = x }) a

pub before_no_later : (point : ℕ → ℤ) (before : JobId → JobId → Bool) → Lawful point before
    → (a b : JobId) → before a b ≡ true → no_later point a b ≡ true
before_no_later point before lawful a b e = go (no_later point a b) refl
  where
    apart : a ≡ b → ⊥
    apart same = both_ways (before a b) (subst (λ c. before a c ≡ false) same (lawful.not_itself a)) e

    go : (c : Bool) → no_later point a b ≡ c → c ≡ true
    go true f = refl
    go false f =
        let behind : before b a ≡ true = lawful.by_priority b a (omega (arith, ints)) in
        absurd (both_ways (before a b) (lawful.exactly_one a b apart ∙ ap not behind) e)

module _ (n : ℕ) (point : ℕ → ℤ) where
  -- The ticks that went to jobs of the other tasks that do not come after this job.
  abbrev pub taken : JobId → History → ℕ → ℕ
  taken a h i = cond (eqb i a.task) 0 (tally i (ahead point a i) h)

  abbrev pub lost : JobId → History → ℕ
  lost a h = sum_to n (taken a h)

  -- The ticks in the last part of the life of an open job are its own, or it waited, or they are lost to others.
  abbrev pub Progress : ℕ → History → ℕ → Job → Type 0
  Progress now h k j = is_open j.phase ≡ true → (w : ℕ) → w + j.release ≤ now
      → w ≤ (j.given + j.waited) + lost (record { task = k; release = j.release }) (take w h)

  tally_grows : (i : ℕ) (p : ℕ → Bool) (x : Option JobId) (h : History) → tally i p h ≤ tally i p (x ∷ h)
  tally_grows i p x h =
      cond_both (went i p x) _ _ (λ (m : ℕ). tally i p h ≤ m) (λ _. omega arith) (λ _. le_refl (tally i p h))

  taken_grows : (a : JobId) (x : Option JobId) (h : History) (i : ℕ) → taken a h i ≤ taken a (x ∷ h) i
  taken_grows a x h i = go (eqb i a.task) refl
    where
      go : (b : Bool) → eqb i a.task ≡ b → taken a h i ≤ taken a (x ∷ h) i
      go true e = rw e (le_refl 0)
      go false e = rw e (tally_grows i _ x h)

  pub lost_grows : (a : JobId) (x : Option JobId) (h : History) → lost a h ≤ lost a (x ∷ h)
  lost_grows a x h = sum_to_mono n (taken a h) (taken a (x ∷ h)) (λ i _. taken_grows a x h i)

  pub lost_more : (a b : JobId) (h : History) → b.task < n → (b.task ≡ a.task → ⊥) → no_later point b a ≡ true
      → lost a h < lost a (Some b ∷ h)
  lost_more a b h in' apart ahead =
      sum_to_more n (taken a h) (taken a (Some b ∷ h)) (λ i _. taken_grows a (Some b) h i) b.task in'
      (rw (ne_eqb b.task a.task apart, eq-eqb b.task b.task refl, ahead) (omega arith))

  -- One tick on, if the tick is one of the three.
  pub progress_step : (now : ℕ) (h : History) (k : ℕ) (j j' : Job) (x : Option JobId) → j'.release ≡ j.release
      → (is_open j'.phase ≡ true → is_open j.phase ≡ true)
      → (is_open j'.phase ≡ true → (h : History)
      → (j.given + j.waited) + lost (record { task = k; release = j.release }) h
      < (j'.given + j'.waited) + lost (record { task = k; release = j.release }) (x ∷ h))
      → Progress now h k j → Progress (suc now) (x ∷ h) k j'
  progress_step now h k j j' x same was one_more progress is zero within = omega arith
  progress_step now h k j j' x same was one_more progress is (suc w) within =
      let before = progress (was is) w (omega arith) in
      let now_more = one_more is (take w h) in
      rw same (omega arith)
