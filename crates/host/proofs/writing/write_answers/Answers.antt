use Rattle.std.proofs.Common.{◌≡◌, ℕ, ◌+◌, ◌*◌, List, length, get_or, sym, ap, ◌∙◌, ap₂, arith}
use Rattle.std.proofs.Math.ListN.{get_or-map}
use Rattle.std.proofs.lemmas.List.{length-map}
use Rattle.admission.specs.Views.{bounds_of, no_row, offsets_of, rows_of}
use Rattle.admission.specs.declared.accepted.Admitted.{Admitted}
use Rattle.host.specs.Written.{placed}
use Rattle.host.proofs.Bytes.{written_more}
use Rattle.host.proofs.writing.write_answers.Goals as goal

pub loop-task-preserved : goal.loop-task-preserved
loop-task-preserved c =
    let set = c.args.set.now in
    let k = c.loop-task.task in
    let rows = rows_of set in
    let items : c.as_slice-row-items.result.now ≡ rows = c.as_slice-row-items.ensures.value in
    let long : length c.as_slice-row-items.result.now ≡ length rows = ap length items in
    let tasks = length-map rows (λ a. a.figures) in
    let bounds = length-map rows (λ a. a.bound) in
    let offsets = length-map rows (λ a. a.offset) in
    let bound = ap (λ (xs : List Admitted). (get_or xs k no_row).bound) items ∙ sym (get_or-map (λ a. a.bound) rows k no_row) in
    let offset = ap (λ (xs : List Admitted). (get_or xs k no_row).offset) items ∙ sym (get_or-map (λ a. a.offset) rows k no_row) in
    c.put-in-loop-task.ensures.bytes
    ∙ (ap₂ (λ (xs : List ℕ) (n : ℕ). placed xs (4 * k + 2) n)
    (c.put.ensures.bytes ∙ ap₂ (λ (xs : List ℕ) (n : ℕ). placed xs (4 * k) n) c.loop-task.invariant bound) offset
    ∙ written_more (bounds_of set) (offsets_of set) c.args.res.now k (omega arith) (omega arith) (omega arith))
