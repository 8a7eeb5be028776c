-- The bits of the word of a test, and that they tell that it is this word.
use Rattle.std.proofs.Common.{◌≡◌, ℕ, zero, suc, ◌+◌, ◌*◌, ◌/◌, ◌%◌, ◌^◌, Bool, true, false, cond, ◌&&◌, eqb, ltb, sym, refl, ap, ◌∙◌, arith}
use native.Mathlib.Nat.{pow-succ'}
use lib.Dec.{leb-suc-zero, leb-suc-suc, leb-zero}
use Rattle.std.proofs.lemmas.Bool.Decides.{nat_tests}
use Rattle.model.specs.Words.{word}
use Rattle.words.specs.Bits.{has}
use Rattle.words.proofs.Digits.{has_first, has_suc, has_zero, same_bits}

doubled : (b : Bool) (n : ℕ) → cond b (2 ^ suc n) 0 ≡ 2 * cond b (2 ^ n) 0
doubled true n = pow-succ' 2 n
doubled false n = refl

-- The word from the bottom: its last digit, and the word of the rest.
word_suc : (n : ℕ) (test : ℕ → Bool) → word (suc n) test ≡ cond (test 0) 1 0 + 2 * word n (λ i. test (suc i))
word_suc zero test = omega arith
word_suc (suc n) test =
    let rest = word_suc n test in
    let top = doubled (test (suc n)) n in
    omega arith

half : (b : Bool) (w : ℕ) → (cond b 1 0 + 2 * w) / 2 ≡ w
half true w = omega arith
half false w = omega arith

last : (b : Bool) (w : ℕ) → eqb ((cond b 1 0 + 2 * w) % 2) 1 ≡ b
last true w = grind (arith, nat_tests)
last false w = grind (arith, nat_tests)

-- The bits of the word of a test are the numbers below n that pass it.
pub has_word : (n : ℕ) (test : ℕ → Bool) (k : ℕ) → has (word n test) k ≡ (ltb k n && test k)
has_word zero test k = has_zero k ∙ sym (ap (λ b. b && test k) (leb-suc-zero k))
has_word (suc n) test zero =
    has_first (word (suc n) test) ∙ ap (λ (w : ℕ). eqb (w % 2) 1) (word_suc n test) ∙ last (test 0) (word n (λ i. test (suc i)))
    ∙ sym (ap (λ b. b && test 0) (leb-suc-suc 0 n ∙ leb-zero n))
has_word (suc n) test (suc k) =
    has_suc (word (suc n) test) k ∙ ap (λ (w : ℕ). has (w / 2) k) (word_suc n test)
    ∙ ap (λ (w : ℕ). has w k) (half (test 0) (word n (λ i. test (suc i)))) ∙ has_word n (λ i. test (suc i)) k
    ∙ sym (ap (λ b. b && test (suc k)) (leb-suc-suc (suc k) n))

-- A number with these bits is the word of the test.
pub word_unique : (n w : ℕ) (test : ℕ → Bool) → ((k : ℕ) → has w k ≡ (ltb k n && test k)) → w ≡ word n test
word_unique n w test h = same_bits w (word n test) (λ k. h k ∙ sym (has_word n test k))
