-- Adding task after task answers as the checks of a table.
use Rattle.std.proofs.Common.{◌≡◌, ℕ, zero, suc, ◌+◌, ◌*◌, ◌<◌, ◌≤◌, Bool, true, false, eqb, ltb, leb, List, [], ◌∷◌, ◌++◌, length, get_or, take, drop, Err, Result, sym, refl, ap, ◌∙◌, subst, arith, lit<, MatchResult}
use Rattle.std.proofs.lemmas.List.FromFn.{get_or-map-range_with_len, length-map-range_with_len}
use Rattle.std.proofs.lemmas.List.{at_drop_more, drop-drop, get_or-drop, get_or-take, length-take-le, take_more}
use Rattle.std.specs.Simd.{first_chunks}
use Rattle.model.specs.Bytes.{figures_at}
use Rattle.std.proofs.lemmas.Result.{MatchResult-weaker}
use Rattle.std.proofs.lemmas.Bool.{le-ltb, lt-leb, true≢false}
use Rattle.model.specs.Checks.{Checks, call, question}
use Rattle.model.specs.Figures.{most_tasks, no_task}
use Rattle.model.specs.Tables.{add, deadline_outside}
use Rattle.model.specs.declared.figures.Figures.{Figures}
use Rattle.model.specs.declared.refusal.Refusal.{Refusal}
use Rattle.model.specs.declared.refusal.Refusal.TheVariants.{TableFull, NoExecution, DeadlineOutsidePeriod}
use Rattle.host.specs.Checked.{row_checks, table_checks}
use Rattle.host.specs.Rows.{row, row_count, rows}

-- The checks of tasks, asked for a list of all.
abbrev pub asked : List Figures → List Figures → Result (List Figures) Refusal
asked all tasks = question (row_checks tasks) all

-- Where no table is full only the checks of the tasks are left.
pub few_checked : (all : List Figures) → length all ≤ most_tasks → question (table_checks all) all ≡ asked all all
few_checked all few = let room : ltb most_tasks (length all) ≡ false = le-ltb most_tasks (length all) few in simp room

module _ (tasks : List Figures) (f : Figures) (rest all : List Figures) where
  -- A task that is added leaves the checks of those behind it, and one that is not added is refused by its checks.
  abbrev AsChecked : Result ℕ Refusal → List Figures → Type 0
  AsChecked answer after =
      MatchResult answer (λ _. (asked all (f ∷ rest) ≡ asked all rest) × (after ≡ tasks ++ f ∷ []))
      (λ refusal. asked all (f ∷ rest) ≡ Err refusal)

  as_checked : length tasks < most_tasks → (answer : Result ℕ Refusal) (after : List Figures) → answer ≡ (add tasks f).0
      → after ≡ (add tasks f).1 → AsChecked answer after
  as_checked room answer after is_answer is_after =
      subst (λ (r : Result ℕ Refusal). AsChecked r after) (sym is_answer)
      (subst (λ (ts : List Figures). AsChecked (add tasks f).0 ts) (sym is_after)
      (go (leb most_tasks (length tasks)) (eqb f.execution 0) (deadline_outside f) (lt-leb most_tasks (length tasks) room)))
    where
      go : (full none outside : Bool) → full ≡ false
          → let checks : Checks = (none, NoExecution) ∷ ((outside, DeadlineOutsidePeriod) ∷ row_checks rest) in
          let added = call ((full, TableFull) ∷ ((none, NoExecution) ∷ ((outside, DeadlineOutsidePeriod) ∷ []))) tasks (length tasks)
          (tasks ++ f ∷ []) in
          MatchResult added.0 (λ _. (question checks all ≡ asked all rest) × (added.1 ≡ tasks ++ f ∷ []))
          (λ refusal. question checks all ≡ Err refusal)
      go true none outside e = absurd (true≢false e)
      go false true outside e = refl
      go false false true e = refl
      go false false false e = (refl, refl)

-- The tasks so far are the first of all, and the checks of those that are left answer as the checks of all.
abbrev pub Front : List Figures → List Figures → ℕ → Type 0
Front all tasks k = (tasks ≡ take k all) × (asked all (drop k all) ≡ asked all all)

-- The tasks are as many as the bytes have rows.
pub length_rows : (bytes : List ℕ) → length (rows bytes) ≡ row_count bytes
length_rows bytes = length-map-range_with_len (row bytes) 0 (row_count bytes)

module _ (bytes : List ℕ) (m : ℕ) where
  byte : (i j : ℕ) → m + i ≡ j → i < 8 → get_or (take 8 (drop m bytes)) i 0 ≡ get_or bytes j 0
  byte i j e h = get_or-take 8 (drop m bytes) i 0 h ∙ (get_or-drop m bytes i 0 ∙ ap (λ (k : ℕ). get_or bytes k 0) e)

  figures_in_chunk : figures_at (take 8 (drop m bytes)) 0 ≡ figures_at bytes m
  figures_in_chunk =
      let b0 = byte 0 m (omega arith) (lit< tt) in
      let b1 = byte 1 (m + 1) (omega arith) (lit< tt) in
      let b2 = byte 2 (m + 2) (omega arith) (lit< tt) in
      let b3 = byte 3 (m + 2 + 1) (omega arith) (lit< tt) in
      let b4 = byte 4 (m + 4) (omega arith) (lit< tt) in
      let b5 = byte 5 (m + 4 + 1) (omega arith) (lit< tt) in
      let b6 = byte 6 (m + 6) (omega arith) (lit< tt) in
      let b7 = byte 7 (m + 6 + 1) (omega arith) (lit< tt) in
      cc

chunk_at : (n k : ℕ) (bytes d : List ℕ) → k < n → get_or (first_chunks 8 n bytes) k d ≡ take 8 (drop (8 * k) bytes)
chunk_at zero k bytes d h = absurd (omega arith)
chunk_at (suc n) zero bytes d h = refl
chunk_at (suc n) (suc k) bytes d h =
    let next : 8 + 8 * k ≡ 8 * suc k = omega arith in
    chunk_at n k (drop 8 bytes) d (omega arith) ∙ ap (take 8) (drop-drop (8 * k) 8 bytes ∙ ap (λ (m : ℕ). drop m bytes) next)

-- The figures of a chunk of 8 bytes.
pub chunk_row : (bytes : List ℕ) (chunks : List (List ℕ)) (n k : ℕ) (d : List ℕ) (f : Figures) → chunks ≡ first_chunks 8 n bytes
    → f ≡ figures_at (get_or chunks k d) 0 → k < n → f ≡ row bytes k
chunk_row bytes chunks n k d f cut value h =
    value ∙ (ap (λ (cs : List (List ℕ)). figures_at (get_or cs k d) 0) cut
    ∙ (ap (λ (chunk : List ℕ). figures_at chunk 0) (chunk_at n k bytes d h) ∙ figures_in_chunk bytes (8 * k)))

-- One task more, or the first refusal of the whole table.
pub front_more : (bytes : List ℕ) (tasks : List Figures) (k : ℕ) → Front (rows bytes) tasks k → k < row_count bytes
    → row_count bytes ≤ most_tasks → (f : Figures) → f ≡ row bytes k → (answer : Result ℕ Refusal) (after : List Figures)
    → answer ≡ (add tasks f).0 → after ≡ (add tasks f).1
    → MatchResult answer (λ _. Front (rows bytes) after (k + 1)) (λ refusal. question (table_checks (rows bytes)) (rows bytes) ≡ Err refusal)
front_more bytes tasks k (front, left) inside few f value answer after is_answer is_after =
    let all = rows bytes in
    let long = length_rows bytes in
    let here : k < length all = omega arith in
    let many : length tasks ≡ k = ap length front ∙ length-take-le k all (omega arith) in
    let is : f ≡ get_or all k no_task =
    value ∙ sym (get_or-map-range_with_len (row bytes) 0 (row_count bytes) k k no_task inside (omega arith)) in
    let checked : asked all (f ∷ drop (k + 1) all) ≡ asked all all =
    ap (λ (x : Figures). asked all (x ∷ drop (k + 1) all)) is
    ∙ (sym (at_drop_more (asked all) all k no_task here) ∙ left) in
    MatchResult-weaker answer (as_checked tasks f (drop (k + 1) all) all (omega arith) answer after is_answer is_after)
    (λ _ p. (
      p.1 ∙ (ap (λ (ts : List Figures). ts ++ f ∷ []) front
          ∙ (ap (λ (x : Figures). take k all ++ x ∷ []) is ∙ sym (take_more all k no_task here))),
      sym p.0 ∙ checked,
    ))
    (λ _ p. few_checked all (omega arith) ∙ (sym checked ∙ p))
