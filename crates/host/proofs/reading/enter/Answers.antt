use Rattle.std.proofs.Common.{◌≡◌, ◌<◌, true, ltb, length, Ok, Err, sym, ◌∙◌, arith}
use Rattle.std.proofs.lemmas.List.{at_drop_all, take_all}
use Rattle.std.proofs.lemmas.Result.{err_from_is_err_and}
use Rattle.std.proofs.lemmas.Bool.{lt-ltb}
use Rattle.model.specs.Figures.{most_tasks}
use Rattle.tasks.specs.Listed.{listed}
use Rattle.host.specs.Rows.{row_count, rows}
use Rattle.host.proofs.Entering.{asked, chunk_row, few_checked, front_more, length_rows}
use Rattle.host.proofs.reading.enter.Goals as goal

pub returns-then-rows-gt-CAPACITY : goal.returns-then-rows-gt-CAPACITY
returns-then-rows-gt-CAPACITY c =
    let all = rows c.args.bytes.now in
    let many = length_rows c.args.bytes.now in
    let full : ltb most_tasks (length all) ≡ true = lt-ltb most_tasks (length all) (omega arith) in
    record { answer = simp full }

pub returns-in_err-add : goal.returns-in_err-add
returns-in_err-add c =
    let bytes = c.args.bytes.now in
    let k = c.loop-row.row-index in
    let p = err_from_is_err_and c.from_residual.result c.from_residual.ensures.1 in
    let inside : k < row_count bytes = omega arith in
    let value = chunk_row bytes _ (row_count bytes) k _ _ c.as_chunks.ensures.front c.from.ensures inside in
    record {
      answer = rw (p.1, p.2) (front_more bytes (listed c.loop-row.table) k c.loop-row.invariant inside (omega arith)
          c.from.result value (Err c.in_err-add.field-0.0)
          (listed c.add.new.self) c.in_err-add.ensures.answer c.in_err-add.ensures.state);
    }

pub loop-row-preserved : goal.loop-row-preserved
loop-row-preserved c =
    let bytes = c.args.bytes.now in
    let k = c.loop-row.row-index in
    let inside : k < row_count bytes = omega arith in
    let value = chunk_row bytes _ (row_count bytes) k _ _ c.as_chunks.ensures.front c.from.ensures inside in
    front_more bytes (listed c.loop-row.table) k c.loop-row.invariant inside (omega arith)
    c.from.result value (Ok c.in_ok-add.field-0)
    (listed c.add.new.self) c.in_ok-add.ensures.answer c.in_ok-add.ensures.state

pub returns : goal.returns
returns c =
    let all = rows c.args.bytes.now in
    let k = c.loop-row.row-index in
    let many = length_rows c.args.bytes.now in
    record {
      answer = (
        few_checked all (omega arith) ∙ (sym c.loop-row.invariant.1 ∙ at_drop_all (asked all) all k (omega arith)),
        c.loop-row.invariant.0 ∙ take_all k all (omega arith),
      );
    }
