-- Numbers that stand a period apart: of several that pass a test, the first and the last are far apart.
use Rattle.std.proofs.Common.{◌≡◌, ℕ, zero, suc, ◌+◌, ◌*◌, ◌≤◌, Bool, true, false, cond, List, [], ◌∷◌, refl, suc-mul, zero-mul, arith}
use Rattle.std.specs.List.{AllByRecursion}

-- Newest first: every number is at least a period above all that follow.
abbrev pub Gaps : ℕ → List ℕ → Type 0
Gaps t [] = Unit {0}
Gaps t (x ∷ xs) = AllByRecursion (λ y. y + t ≤ x) xs × Gaps t xs

-- How many pass the test.
abbrev pub many : (ℕ → Bool) → List ℕ → ℕ
many q [] = 0
many q (x ∷ xs) = cond (q x) (suc (many q xs)) (many q xs)

module _ (t : ℕ) (q : ℕ → Bool) where
  -- The first that passes is as many periods below x as there are that pass.
  abbrev Under : List ℕ → ℕ → Type 0
  Under xs x = (c : ℕ) → many q xs ≡ suc c → (first : ℕ) × (q first ≡ true) × (first + suc c * t ≤ x)

  -- The first and the last that pass have a period for each step from one to the next between them.
  abbrev Spread : List ℕ → Type 0
  Spread xs = (c : ℕ) → many q xs ≡ suc c → (first last : ℕ) × (q first ≡ true) × (q last ≡ true) × (first + c * t ≤ last)

  under : (xs : List ℕ) (x : ℕ) → AllByRecursion (λ y. y + t ≤ x) xs → Gaps t xs → Under xs x
  under [] x below gaps c e = absurd (omega arith)
  under (y ∷ ys) x below gaps c e = go (q y) refl (under ys x below.1 gaps.1) (under ys y gaps.0 gaps.1) c e
    where
      go : (b : Bool) → q y ≡ b → Under ys x → Under ys y → Under (y ∷ ys) x
      go true p past here zero e = (y, p, omega (arith, suc-mul 0 t))
      go true p past here (suc c) e =
          let more : suc (many q ys) ≡ suc (suc c) = rw p at e in
          let (first, passes, far) = here c (omega arith) in
          (first, passes, omega (arith, suc-mul (suc c) t))
      go false p past here c e = past c (rw p at e)

  pub spread : (xs : List ℕ) → Gaps t xs → Spread xs
  spread [] gaps c e = absurd (omega arith)
  spread (x ∷ xs) gaps c e = go (q x) refl (under xs x gaps.0 gaps.1) (spread xs gaps.1) c e
    where
      go : (b : Bool) → q x ≡ b → Under xs x → Spread xs → Spread (x ∷ xs)
      go true p below past zero e = (x, x, p, p, omega (arith, zero-mul t))
      go true p below past (suc c) e =
          let more : suc (many q xs) ≡ suc (suc c) = rw p at e in
          let (first, passes, far) = below c (omega arith) in
          (first, x, passes, p, far)
      go false p below past c e = past c (rw p at e)

  -- So there are few that pass, if the first and the last cannot be far apart.
  pub many_most : (xs : List ℕ) (most : ℕ) → Gaps t xs
      → ((first last c : ℕ) → q first ≡ true → q last ≡ true → first + c * t ≤ last → suc c ≤ most) → many q xs ≤ most
  many_most xs most gaps close = go (many q xs) refl
    where
      go : (m : ℕ) → many q xs ≡ m → m ≤ most
      go zero e = omega arith
      go (suc c) e = let (first, last, one, two, far) = spread xs gaps c e in close first last c one two far
