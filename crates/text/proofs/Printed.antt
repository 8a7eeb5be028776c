-- Lines one after the other.
use Rattle.std.proofs.Common.{◌≡◌, ℕ, suc, ◌+◌, ◌<◌, List, [], ◌∷◌, ◌++◌, map, length, get_or, take, IfOk, Ok, Err, Result, sym, refl, ap, ◌∙◌, append_assoc, arith}
use Rattle.std.proofs.lemmas.List.{length-take-le, map_more, take_more}
use Rattle.admission.specs.Held.{bounds_in, offsets_in}
use Rattle.admission.specs.declared.accepted.Admitted.{Admitted}
use Rattle.text.specs.Lines.{line, printed}
use Rattle.text.specs.Spoken.{bound_lines}
use Rattle.text.specs.declared.line.Line.{Line}
use Rattle.text.specs.declared.line.Line.TheVariants.{Bound}

-- The text of lines is the text of the first ones and then that of the others.
pub printed_append : (ls ms : List Line) → printed (ls ++ ms) ≡ printed ls ++ printed ms
printed_append [] ms = refl
printed_append (l ∷ ls) ms = rw (printed_append ls ms) (sym (append_assoc (line l) (0x0A ∷ printed ls) (printed ms)))

-- More lines at the end of a text.
pub said_more : (before now after : List ℕ) (ls ms : List Line) → now ≡ before ++ printed ls → after ≡ now ++ printed ms
    → after ≡ before ++ printed (ls ++ ms)
said_more before now after ls ms first then =
    then ∙ (ap (λ (t : List ℕ). t ++ printed ms) first ∙ (append_assoc before (printed ls) (printed ms)
    ∙ ap (λ (t : List ℕ). before ++ t) (sym (printed_append ls ms))))

-- The same where the last lines may find no memory.
pub said_last : {E : Type 0} (r : Result (Unit {0}) E) (before now after : List ℕ) (ls ms : List Line) → now ≡ before ++ printed ls
    → IfOk r (λ _. after ≡ now ++ printed ms) → IfOk r (λ _. after ≡ before ++ printed (ls ++ ms))
said_last (Ok done) before now after ls ms first then = said_more before now after ls ms first then
said_last (Err e) before now after ls ms first then = tt

-- Three parts, one after the other.
pub said_third : {E : Type 0} (r : Result (Unit {0}) E) (t₀ t₁ t₂ t₃ : List ℕ) (ls ms ns : List Line) → t₁ ≡ t₀ ++ printed ls
    → t₂ ≡ t₁ ++ printed ms → IfOk r (λ _. t₃ ≡ t₂ ++ printed ns) → IfOk r (λ _. t₃ ≡ t₀ ++ printed (ls ++ (ms ++ ns)))
said_third r t₀ t₁ t₂ t₃ ls ms ns first second third =
    rw (← append_assoc ls ms ns) (said_last r t₀ t₂ t₃ (ls ++ ms) ns (said_more t₀ t₁ t₂ ls ms first second) third)

-- One more record of a list.
pub said_next : {T : Type 0} (f : T → Line) (xs : List T) (i : ℕ) (x : T) (l : Line) (before now after : List ℕ) → i < length xs → x ≡ get_or xs i x
    → l ≡ f x → now ≡ before ++ printed (map f (take i xs)) → after ≡ now ++ printed (l ∷ []) → after ≡ before ++ printed (map f (take (i + 1) xs))
said_next f xs i x l before now after h read is first then =
    rw (map_more f xs i x h, ← read, ← is) (said_more before now after (map f (take i xs)) (l ∷ []) first then)

-- One more bound.
bound_lines_push : (n : ℕ) (rows : List Admitted) (x : Admitted)
    → bound_lines n (bounds_in (rows ++ x ∷ [])) (offsets_in (rows ++ x ∷ []))
    ≡ bound_lines n (bounds_in rows) (offsets_in rows) ++ Bound (n + length rows) x.bound x.offset ∷ []
bound_lines_push n [] x = ap (λ (m : ℕ). Bound m x.bound x.offset ∷ []) (omega arith)
bound_lines_push n (r ∷ rows) x =
    ap (λ (ls : List Line). Bound n r.bound r.offset ∷ ls)
    (bound_lines_push (suc n) rows x
    ∙ ap (λ (m : ℕ). bound_lines (suc n) (bounds_in rows) (offsets_in rows) ++ Bound m x.bound x.offset ∷ []) (omega arith))

pub said_bound : (rows : List Admitted) (i : ℕ) (d : Admitted) (before now after : List ℕ) → i < length rows
    → now ≡ before ++ printed (bound_lines 0 (bounds_in (take i rows)) (offsets_in (take i rows)))
    → after ≡ now ++ printed (Bound i (get_or rows i d).bound (get_or rows i d).offset ∷ [])
    → after ≡ before ++ printed (bound_lines 0 (bounds_in (take (i + 1) rows)) (offsets_in (take (i + 1) rows)))
said_bound rows i d before now after h first then =
    let many : length (take i rows) ≡ i = length-take-le i rows (omega arith) in
    let at : 0 + length (take i rows) ≡ i = omega arith in
    rw (take_more rows i d h, bound_lines_push 0 (take i rows) (get_or rows i d), at)
    (said_more before now after (bound_lines 0 (bounds_in (take i rows)) (offsets_in (take i rows)))
    (Bound i (get_or rows i d).bound (get_or rows i d).offset ∷ []) first then)

-- Lines that are said, and those that are left to say.
pub said_then : (before now : List ℕ) (ls later : List Line) → now ≡ before ++ printed ls
    → before ++ printed (ls ++ later) ≡ now ++ printed later
said_then before now ls later said =
    ap (λ (t : List ℕ). before ++ t) (printed_append ls later) ∙ (sym (append_assoc before (printed ls) (printed later))
    ∙ ap (λ (t : List ℕ). t ++ printed later) (sym said))
