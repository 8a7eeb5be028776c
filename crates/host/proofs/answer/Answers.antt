use Rattle.std.proofs.Common.{◌*◌, ◌≤◌, List, length, sym, ◌∙◌, subst}
use Rattle.std.proofs.lemmas.Result.{err_from_is_err_and}
use Rattle.model.specs.declared.figures.Figures.{Figures}
use Rattle.tasks.specs.Listed.{listed}
use Rattle.host.proofs.Outcomes.{room, said_no, said_yes}
use Rattle.host.proofs.answer.Goals as goal

pub returns-in_err-test : goal.returns-in_err-test
returns-in_err-test c =
    let p = err_from_is_err_and c.from_residual-in_err-test.result c.from_residual-in_err-test.ensures.1 in
    let (passes, entered) = c.in_ok-entered.ensures.answer in
    record {
      answer = rw (p.1, p.2) (said_no c.args.table.now c.args.rule c.args.res.now
          c.in_ok-check_lengths.ensures.answer c.in_ok-choice.choice c.in_ok-choice.ensures.answer
          (listed c.in_ok-entered.entered) passes entered c.new-place.result c.test.new.place
          c.in_err-test.field-0.0 c.in_err-test.ensures.verdict);
    }

pub write_answers-requires : goal.write_answers-requires
write_answers-requires c =
    subst (λ (ts : List Figures). 4 * length ts ≤ length c.args.res.now)
    (sym (c.in_ok-test.ensures.verdict.its_tasks ∙ c.in_ok-entered.ensures.answer.1))
    (room c.args.table.now c.args.rule c.args.res.now c.in_ok-check_lengths.ensures.answer)

pub returns : goal.returns
returns c =
    let (passes, entered) = c.in_ok-entered.ensures.answer in
    record {
      answer = said_yes c.args.table.now c.args.rule c.args.res.now
          c.in_ok-check_lengths.ensures.answer c.in_ok-choice.choice c.in_ok-choice.ensures.answer
          (listed c.in_ok-entered.entered) passes entered c.test.new.place c.in_ok-test.ensures.verdict
          c.write_answers.new.res c.write_answers.ensures.bytes;
    }
