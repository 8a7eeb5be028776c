-- Writing bounds and offsets, number by number.
use Rattle.std.proofs.Common.{◌≡◌, ℕ, ◌+◌, ◌*◌, ◌/◌, ◌%◌, ◌<◌, ◌≤◌, List, [], ◌∷◌, ◌++◌, length, get_or, take, drop, set, sym, refl, ap, ◌∙◌, append_assoc, arith, length-append}
use Rattle.std.proofs.lemmas.List.{drop_more, length_push, length-take-le, set_at, take_more}
use Rattle.host.specs.Written.{answer_bytes, placed, two_bytes}

placed_at : (p rest : List ℕ) (x y n m : ℕ) → length p ≡ m → placed (p ++ x ∷ (y ∷ rest)) m n ≡ p ++ (two_bytes n ++ rest)
placed_at p rest x y n m long =
    let a = n % 256 in
    let b = n / 256 % 256 in
    let longer : length (p ++ a ∷ []) ≡ m + 1 = length_push p a ∙ ap (λ (k : ℕ). k + 1) long in
    ap (λ (xs : List ℕ). set xs (m + 1) b) (set_at p x (y ∷ rest) a m long ∙ sym (append_assoc p (a ∷ []) (y ∷ rest)))
    ∙ (set_at (p ++ a ∷ []) y rest b (m + 1) longer ∙ append_assoc p (a ∷ []) (b ∷ rest))

drop_two : (xs : List ℕ) (m : ℕ) → m + 2 ≤ length xs → drop m xs ≡ get_or xs m 0 ∷ (get_or xs (m + 1) 0 ∷ drop (m + 2) xs)
drop_two xs m room =
    let next : (m + 1) + 1 ≡ m + 2 = omega arith in
    drop_more xs m 0 (omega arith)
    ∙ ap (λ (ys : List ℕ). get_or xs m 0 ∷ ys)
    (drop_more xs (m + 1) 0 (omega arith) ∙ ap (λ (k : ℕ). get_or xs (m + 1) 0 ∷ drop k xs) next)

placed_next : (p before : List ℕ) (m n : ℕ) → length p ≡ m → m + 2 ≤ length before
    → placed (p ++ drop m before) m n ≡ (p ++ two_bytes n) ++ drop (m + 2) before
placed_next p before m n long room =
    ap (λ (ys : List ℕ). placed (p ++ ys) m n) (drop_two before m room)
    ∙ (placed_at p (drop (m + 2) before) (get_or before m 0) (get_or before (m + 1) 0) n m long
    ∙ sym (append_assoc p (two_bytes n) (drop (m + 2) before)))

answer_push : (bs qs : List ℕ) (b q : ℕ) → length bs ≡ length qs
    → answer_bytes (bs ++ b ∷ []) (qs ++ q ∷ []) ≡ (answer_bytes bs qs ++ two_bytes b) ++ two_bytes q
answer_push [] [] b q same = refl
answer_push [] (y ∷ qs) b q same = absurd (omega arith)
answer_push (x ∷ bs) [] b q same = absurd (omega arith)
answer_push (x ∷ bs) (y ∷ qs) b q same =
    ap (λ (rest : List ℕ). two_bytes x ++ (two_bytes y ++ rest)) (answer_push bs qs b q (omega arith))

length_answers : (bs qs : List ℕ) → length bs ≡ length qs → length (answer_bytes bs qs) ≡ 4 * length bs
length_answers [] [] same = refl
length_answers [] (y ∷ qs) same = absurd (omega arith)
length_answers (x ∷ bs) [] same = absurd (omega arith)
length_answers (x ∷ bs) (y ∷ qs) same = let rest = length_answers bs qs (omega arith) in omega arith

-- The result after the answers of the first k tasks.
abbrev pub written : List ℕ → List ℕ → List ℕ → ℕ → List ℕ
written bounds offsets before k = answer_bytes (take k bounds) (take k offsets) ++ drop (4 * k) before

-- The answer of one more task.
pub written_more : (bounds offsets before : List ℕ) (k : ℕ) → k < length bounds → k < length offsets → 4 * k + 4 ≤ length before
    → placed (placed (written bounds offsets before k) (4 * k) (get_or bounds k 0)) (4 * k + 2) (get_or offsets k 0)
    ≡ written bounds offsets before (k + 1)
written_more bounds offsets before k kb kq room =
    let b = get_or bounds k 0 in
    let q = get_or offsets k 0 in
    let front = answer_bytes (take k bounds) (take k offsets) in
    let long_b : length (take k bounds) ≡ k = length-take-le k bounds (omega arith) in
    let long_q : length (take k offsets) ≡ k = length-take-le k offsets (omega arith) in
    let long : length front ≡ 4 * k = length_answers (take k bounds) (take k offsets) (omega arith) ∙ ap (λ (n : ℕ). 4 * n) long_b in
    let longer : length (front ++ two_bytes b) ≡ 4 * k + 2 = simp length-append (omega arith) in
    let next : (4 * k + 2) + 2 ≡ 4 * (k + 1) = omega arith in
    let pushed = answer_push (take k bounds) (take k offsets) b q (omega arith) in
    ap (λ (xs : List ℕ). placed xs (4 * k + 2) q) (placed_next front before (4 * k) b long (omega arith))
    ∙ (placed_next (front ++ two_bytes b) before (4 * k + 2) q longer (omega arith)
    ∙ simp (pushed, take_more bounds k 0 kb, take_more offsets k 0 kq, next))
