use Rattle.std.proofs.Common.{◌≡◌, ◌+◌, length, ap, ◌∙◌, arith}
use Rattle.std.proofs.lemmas.List.{length-map, length_push, map_push}
use Rattle.model.proofs.Rounds.{refuses_late}
use Rattle.admission.proofs.Iteration.{rising_start, rising_round, found_more, distance_falls, admits_unmoved}
use Rattle.admission.proofs.rounds.smallest_bounds.Goals as goal

pub rounds-init : goal.rounds-init
rounds-init c = (c.requires.start.one_each, rising_start c.args.tasks.now c.args.points.now c.args.start.items c.requires.start)

pub loop-own-preserved : goal.loop-own-preserved
loop-own-preserved c =
    let (long, found) = c.loop-own.invariant in
    let items = c.loop-own.found.items in
    let (least, in_time) = c.in-Some.ensures in
    rw (c.push.ensures.items, map_push, map_push) (
      length_push items c.in-Some.least ∙ ap (λ n. n + 1) long,
      found_more c.args.tasks.now c.args.points.now c.deref.result.now _ _ c.loop-own.own c.in-Some.least.0 c.in-Some.least.1
          (length-map items (λ p. p.0) ∙ long) (length-map items (λ p. p.1) ∙ long) found least in_time,
    )

pub rounds-smaller : goal.rounds-smaller
rounds-smaller c =
    let long = c.loop-own.invariant.0 in
    let all : c.loop-own.own ≡ length c.args.tasks.now = omega arith in
    let found = rw (c.deref.ensures.0, all) at c.loop-own.invariant.1 in
    let moved = rw (c.deref-in-rounds.ensures.0, c.deref-in-rounds-2.ensures.0, long, all) at c.if-nothing_moved.ensures.value in
    rw (c.widened-figures.ensures.value, c.deref-in-rounds-3.ensures.0)
    (distance_falls c.args.tasks.now c.args.points.now c.rounds.figures.items _ _ c.rounds.invariant.1 found moved)

pub rounds-preserved : goal.rounds-preserved
rounds-preserved c =
    let all : c.loop-own.own ≡ length c.args.tasks.now = omega arith in
    let found = rw (c.deref.ensures.0, all) at c.loop-own.invariant.1 in
    rw (c.widened-figures.ensures.value, c.deref-in-rounds-3.ensures.0) (
      length-map c.loop-own.found.items (λ p. p.0) ∙ (c.loop-own.invariant.0 ∙ all),
      rising_round c.args.tasks.now c.args.points.now c.rounds.figures.items _ _ c.rounds.invariant.1 found,
    )

pub returns-in_default : goal.returns-in_default
returns-in_default c =
    let late = rw c.deref.ensures.0 at c.in_default.ensures in
    record {
      answer = refuses_late c.args.tasks.now c.args.points.now c.rounds.figures.items c.loop-own.own c.rounds.invariant.1.under
          c.loop-own-test.true late;
    }

pub returns-then-nothing_moved : goal.returns-then-nothing_moved
returns-then-nothing_moved c =
    let long = c.loop-own.invariant.0 in
    let items = c.loop-own.found.items in
    let all : c.loop-own.own ≡ length c.args.tasks.now = omega arith in
    let found = rw (c.deref.ensures.0, all) at c.loop-own.invariant.1 in
    let same = rw (c.deref-in-rounds.ensures.0, c.deref-in-rounds-2.ensures.0, long, all) at c.if-nothing_moved.ensures.value in
    record {
      answer = admits_unmoved c.args.tasks.now c.args.points.now c.rounds.figures.items _ _ c.rounds.invariant.1 found
          c.requires.rows.fit.1 (length-map items (λ p. p.0) ∙ (long ∙ all)) (length-map items (λ p. p.1) ∙ (long ∙ all)) same;
    }
