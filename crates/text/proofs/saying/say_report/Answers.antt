use Rattle.std.proofs.Common.{map}
use Rattle.record_log.specs.Records.{records}
use Rattle.text.specs.Spoken.{loss}
use Rattle.text.specs.declared.line.Line.TheVariants.{End, Run}
use Rattle.text.proofs.Printed.{said_third}
use Rattle.text.proofs.saying.say_report.Goals as goal

pub returns : goal.returns
returns c =
    let report = c.args.report.now in
    record {
      bytes = said_third c.say_records-2.result _ _ _ _ (loss report.closed.lost) (map End (records report.ends)) (map Run (records report.stretches))
          c.in_ok-say_loss.ensures.bytes (c.in_ok-say_records.ensures.bytes End (λ _ _ e. e))
          (c.say_records-2.ensures.bytes Run (λ _ _ e. e));
    }
