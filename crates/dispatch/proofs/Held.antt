-- A list of calls made one after the other.
use Rattle.std.proofs.Common.{◌≡◌, ℕ, ◌+◌, ◌<◌, ◌≤◌, Bool, List, [], ◌∷◌, ◌++◌, map, length, get_or, take, drop, set, ℤ, Some, Option, Result, sym, refl, ap, ◌∙◌, subst, ap₂, arith}
use Rattle.std.proofs.lemmas.List.{append_assoc, append-nil, drop_all, drop-drop, drop_more, drop-set-lt, take_all, take_more_set}
use Rattle.std.specs.List.{zip}
use Rattle.admission.proofs.Kept.{one_each, warrant}
use Rattle.admission.specs.Views.{bounds_of, offsets_of, points_of, tasks_of}
use Rattle.admission.specs.declared.accepted.Accepted.{Accepted}
use Rattle.model.specs.Machine.{after, answers, open_word, step}
use Rattle.model.specs.Orders.{Lawful}
use Rattle.model.specs.Promises.{Promises}
use Rattle.model.specs.Reading.{Transcript, reading}
use Rattle.model.specs.RunLaw.{RunLaw}
use Rattle.model.specs.State.{State, start}
use Rattle.model.specs.declared.call.Answer.{Answer}
use Rattle.model.specs.declared.call.Call.{Call}
use Rattle.model.specs.declared.figures.Figures.{Figures}
use Rattle.model.specs.declared.job.JobId.{JobId}
use Rattle.model.specs.declared.refusal.Refusal.{Refusal}
use Rattle.dispatch.specs.Holding.{Made, calls, filled, transcript}
use Rattle.dispatch.specs.Runs.{Agree}
use Rattle.dispatch.specs.declared.holder.Entry.{Entry}
use Rattle.dispatch.specs.declared.run.Totals.{Totals}

module _ (tasks : List Figures) (before : JobId → JobId → Bool) where
  pub filled_calls : (s : State) (es : List Entry) → calls (filled tasks before s es) ≡ calls es
  filled_calls s [] = refl
  filled_calls s (e ∷ es) = ap (λ (cs : List Call). e.call ∷ cs) (filled_calls (step tasks before e.call s).1 es)

  pub filled_answers : (s : State) (es : List Entry) → map (λ e. e.answer) (filled tasks before s es) ≡ map Some
      (answers tasks before s (calls es))
  filled_answers s [] = refl
  filled_answers s (e ∷ es) =
      ap (λ (rest : List (Option (Result Answer Refusal))). Some (step tasks before e.call s).0 ∷ rest) (filled_answers (step tasks before
      e.call s).1 es)

  pub filled_transcript : (s : State) (es : List Entry) → transcript (filled tasks before s es) ≡ zip (calls es)
      (answers tasks before s (calls es))
  filled_transcript s [] = refl
  filled_transcript s (e ∷ es) =
      ap (λ (t : List (Call × Result Answer Refusal)). (e.call, (step tasks before e.call s).0) ∷ t) (filled_transcript (step tasks before
      e.call s).1 es)

  -- The first entries have their answers, and the run is where these calls lead.
  pub record Filling (from : State) (given : List Entry) (s : State) (es : List Entry) (i : ℕ) : Type 0 where
    pub rest : drop i es ≡ drop i given
    pub done : take i es ++ filled tasks before s (drop i given) ≡ filled tasks before from given
    pub ends : after tasks before s (calls (drop i given)) ≡ after tasks before from (calls given)

  module _ (from : State) (given : List Entry) (s : State) (es : List Entry) (i : ℕ) (f : Filling from given s es i) where
    module _ (inside : i < length es) (d : Entry) (next : State) (x : Entry)
        (answered : x ≡ record { call = (get_or es i d).call; answer = Some (step tasks before (get_or es i d).call s).0 })
        (moved : next ≡ (step tasks before (get_or es i d).call s).1) where
      ahead : drop i given ≡ get_or es i d ∷ drop (i + 1) es
      ahead = sym f.rest ∙ drop_more es i d inside

      behind : drop (i + 1) es ≡ drop (i + 1) given
      behind = sym (drop-drop 1 i es) ∙ (ap (drop 1) f.rest ∙ drop-drop 1 i given)

      here : x ∷ filled tasks before next (drop (i + 1) given) ≡ filled tasks before s (drop i given)
      here = ap₂ (λ y ys. y ∷ ys) answered (ap₂ (filled tasks before) moved (sym behind)) ∙ sym (ap (filled tasks before s) ahead)

      pub filling_more : Filling from given next (set es i x) (i + 1)
      filling_more = record {
        rest = drop-set-lt (i + 1) es i x (omega arith) ∙ behind;
        done =
            ap (λ (t : List Entry). t ++ filled tasks before next (drop (i + 1) given)) (take_more_set es i x inside)
            ∙ (append_assoc (take i es) (x ∷ []) (filled tasks before next (drop (i + 1) given)) ∙ (ap (λ
            (t : List Entry). take i es ++ t) here ∙ f.done));
        ends =
            ap₂ (λ t ys. after tasks before t (calls ys)) moved (sym behind)
            ∙ (sym (ap (λ (ys : List Entry). after tasks before s (calls ys)) ahead) ∙ f.ends);
      }

    nothing : length es ≤ i → drop i given ≡ []
    nothing over = sym f.rest ∙ drop_all i es over

    pub filled_all : length es ≤ i → es ≡ filled tasks before from given
    filled_all over =
        sym (take_all i es over)
        ∙ (sym (append-nil (take i es)) ∙ (ap (λ (ys : List Entry). take i es ++ filled tasks before s ys) (sym (nothing over)) ∙ f.done))

    pub state_after : length es ≤ i → s ≡ after tasks before from (calls given)
    state_after over = ap (λ (ys : List Entry). after tasks before s (calls ys)) (sym (nothing over)) ∙ f.ends

-- A run that was made keeps its promises.
module _ (held : Accepted) (points : ℕ → ℤ) (before : JobId → JobId → Bool) (lawful : Lawful points before) (agree : Agree held points)
    (law : RunLaw)
    (given back : List Entry) (t : Totals) (s : State) (entries : back ≡ filled (tasks_of held) before start given)
    (state : s ≡ after (tasks_of held) before start (calls given)) (clock : t.clock ≡ s.clock) (word : t.«open» ≡ open_word
    (tasks_of held) s) where
  pub made : Made held before given back t
  made = record {
    same_calls = ap calls entries ∙ filled_calls (tasks_of held) before start given;
    answered = ap (map (λ e. e.answer)) entries ∙ filled_answers (tasks_of held) before start given;
    clock = clock ∙ ap (λ (r : State). r.clock) state;
    open_tasks = word ∙ ap (open_word (tasks_of held)) state;
    promises =
        subst (λ (tr : Transcript). Promises (tasks_of held) (bounds_of held) (reading tr))
        (sym (ap transcript entries ∙ filled_transcript (tasks_of held) before start given))
        (law (tasks_of held) (points_of held) (bounds_of held) held.fit
        (warrant (tasks_of held) (points_of held) (bounds_of held) (offsets_of held) (one_each held)
        held.shown) points before lawful agree (calls given));
  }
