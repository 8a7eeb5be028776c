-- No open job reaches its bound.
use Rattle.std.proofs.Common.{◌≡◌, ℕ, ◌+◌, ◌-◌, ◌<◌, ◌≤◌, Bool, true, false, eqb, ltb, List, length, take, ℤ, Option, unwrap_or, refl, ⊎_elim, le_trans, le_refl, mul-le-mul_right, arith}
use Rattle.std.proofs.lemmas.Int.{ints}
use Rattle.std.proofs.lemmas.Bool.{and_parts, cases_eq, ltb-true}
use Rattle.model.specs.Reading.{Observed}
use Rattle.model.specs.State.{is_open, no_job}
use Rattle.model.specs.Test.{count, share}
use Rattle.model.specs.declared.figures.Figures.{Figures}
use Rattle.model.specs.declared.job.Job.{Job}
use Rattle.model.specs.declared.job.JobId.{JobId}
use Rattle.model.proofs.Admitted.{Admitted}
use Rattle.model.proofs.Books.{Young}
use Rattle.model.proofs.Counts.{count_laws}
use Rattle.model.proofs.Progress.{ahead, taken}
use Rattle.model.proofs.Sound.{Sound, bound, figures, given_most, open_counts}
use Rattle.model.proofs.Spacing.{many, many_most}
use Rattle.model.proofs.Sums.{sum_to_mono}
use Rattle.model.proofs.Supply.{History, recent, releases, supply_most}

module _ {tasks : List Figures} {points : List ℤ} {bounds : List ℕ} {point : ℕ → ℤ} {before : JobId → JobId → Bool}
    (set : Admitted tasks points bounds point before) where
  -- Another task takes at most its share of the ticks since the offset.
  taken_most : {now : ℕ} {h : History} {i : ℕ} {o : Option Job} {js : List Observed} → Sound tasks bounds point now h i o js
      → (a : JobId) (q w : ℕ) → i < length tasks → a.task < length tasks → now ≡ (a.release + w) + q
      → taken (length tasks) point a (take w h) i ≤ share tasks points bounds a.task q i
  taken_most {now} {h} {i} {js = js} sound a q w in' own_in at = go (eqb i a.task) refl
    where
      few : many (recent (bound bounds i) now w (ahead point a i)) (releases js)
          ≤ count (point a.task) (point i) (bound bounds i) (figures tasks i).period q
      few =
          many_most (figures tasks i).period _ (releases js) _ sound.spaced
          (λ first last c one two far.
          let (_, young) = and_parts (ahead point a i first) (ltb now ((first + bound bounds i) + w)) one in
          let (early, _) = and_parts (ahead point a i last) (ltb now ((last + bound bounds i) + w)) two in
          let since : now < (first + bound bounds i) + w = ltb-true _ _ young in
          let (_, due, longer) = set.allowed.1 i in' in
          count_laws.spaced (point a.task) (point i) (bound bounds i) _ q c (omega arith) (omega (arith, ints)))

      go : (b : Bool) → eqb i a.task ≡ b → taken (length tasks) point a (take w h) i ≤ share tasks points bounds a.task q i
      go true e = rw e (le_refl 0)
      go false e = rw (e, ← set.points_are a.task own_in, ← set.points_are i in')
          (le_trans
          (supply_most (bound bounds i) now i h js sound.supply (figures tasks i).execution (given_most sound) (ahead point a i) w)
          (mul-le-mul_right (figures tasks i).execution few))

  module _ {now : ℕ} {h : History} {latest : ℕ → Option Job} {jobs : ℕ → List Observed}
      (sound : (i : ℕ) → Sound tasks bounds point now h i (latest i) (jobs i)) (k : ℕ) (in' : k < length tasks) where
    abbrev own : Job
    own = unwrap_or (latest k) no_job

    -- An open job of age R would have lost more ticks than the others' shares.
    late : is_open own.phase ≡ true → now ≡ own.release + bound bounds k → ⊥
    late opened at =
        let (q, _, enough) = set.warrant.covered k in' in
        let w : ℕ = bound bounds k - q in
        let (given, waited) = open_counts (sound k) opened in
        let runs = (set.allowed.1 k in').0 in
        let inside : w + q ≡ bound bounds k = omega arith in
        let a : JobId = record { task = k; release = own.release } in
        let mine = (sound k).progress opened w (omega arith) in
        let theirs = sum_to_mono (length tasks) (taken (length tasks) point a (take w h)) (share tasks points bounds k q)
        (λ i l. taken_most (sound i) a q w l in' (omega arith)) in
        omega arith

    -- So an open job that is not older than R is younger.
    pub in_time : now ≤ own.release + bound bounds k → Young (bound bounds k) now own
    in_time old opened =
        ⊎_elim (λ e. absurd (late opened e)) (λ ne. omega arith) (cases_eq now (own.release + bound bounds k))
