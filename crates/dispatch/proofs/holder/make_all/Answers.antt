use Rattle.std.proofs.Common.{get_or, Some, None, Result, ap, ◌∙◌, ap₂, arith}
use Rattle.admission.specs.Views.{tasks_of}
use Rattle.model.specs.Machine.{step}
use Rattle.model.specs.declared.call.Answer.{Answer}
use Rattle.model.specs.declared.call.Call.TheVariants.{Release}
use Rattle.model.specs.declared.refusal.Refusal.{Refusal}
use Rattle.dispatch.proofs.Held.{filled_all, filling_more, state_after}
use Rattle.dispatch.specs.Runs.{of_rule, of_set, state}
use Rattle.dispatch.specs.declared.holder.Entry.{Entry}
use Rattle.dispatch.proofs.holder.make_all.Goals as goal

pub loop-slot-preserved : goal.loop-slot-preserved
loop-slot-preserved g c =
    let kept = c.loop-slot.invariant.0 in
    let from = c.args.run.now in
    let run = c.loop-slot.run in
    let blank : Entry = record { call = Release 0; answer = None } in
    let call = (get_or c.loop-slot.entries c.loop-slot.slot-index blank).call in
    let same = ap₂ (λ set rule. step (tasks_of set) (g.R.OrderRule.before rule) call (state run)) kept.0 kept.1 in (
      (c.call.ensures.kept.0 ∙ kept.0, c.call.ensures.kept.1 ∙ kept.1),
      filling_more (tasks_of (of_set from)) (g.R.OrderRule.before (of_rule from)) (state from) c.args.entries.now (state run)
          c.loop-slot.entries
          c.loop-slot.slot-index c.loop-slot.invariant.1 (omega arith) blank (state c.call.new.self)
          (record { call = call; answer = Some c.call.result })
          (ap (λ (a : Result Answer Refusal). record { call = call; answer = Some a }) (c.call.ensures.answer ∙ ap (λ p. p.0) same))
          (c.call.ensures.state ∙ ap (λ p. p.1) same),
    )

pub returns : goal.returns
returns g c =
    let from = c.args.run.now in
    record {
      entries = filled_all (tasks_of (of_set from)) (g.R.OrderRule.before (of_rule from)) (state from) c.args.entries.now (state
          c.loop-slot.run)
          c.loop-slot.entries c.loop-slot.slot-index c.loop-slot.invariant.1 (omega arith);
      state = state_after (tasks_of (of_set from)) (g.R.OrderRule.before (of_rule from)) (state from) c.args.entries.now (state
          c.loop-slot.run)
          c.loop-slot.entries c.loop-slot.slot-index c.loop-slot.invariant.1 (omega arith);
      kept = c.loop-slot.invariant.0;
    }
