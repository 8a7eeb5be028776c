use Rattle.std.proofs.Common.{string_bytes}
use Rattle.text.proofs.Printed.{said_next}
use Rattle.text.proofs.saying.say_records.Goals as goal

pub loop-record-preserved : goal.loop-record-preserved
loop-record-preserved g c = λ line makes.
    said_next line c.as_slice-record-items.result.now c.loop-record.record-index c.record-item.result c.into.result
    (string_bytes c.args.text.now) (string_bytes c.loop-record.text) (string_bytes c.say.new.text) c.loop-record-test.true c.record-item.is
    (makes _ _ c.into.ensures) (c.loop-record.invariant line makes) c.in_ok-say.ensures.bytes
