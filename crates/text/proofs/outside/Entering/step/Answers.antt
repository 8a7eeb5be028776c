use Rattle.std.proofs.Common.{Ok, sym, ap, ◌∙◌}
use Rattle.text.proofs.Heard.{heard_starts}
use Rattle.text.proofs.outside.Entering.step.Goals as goal

pub returns-in-Ok-Starts : goal.returns-in-Ok-Starts
returns-in-Ok-Starts c = record {
  said = heard_starts c.args.item _ _ c.args.player.now c.start.new.player c.hear.ensures.state
      (ap Ok (sym c.in-Ok-Starts.field-0-is) ∙ c.in-Ok-Starts.ensures.answer) c.start.result c.start.ensures.tried;
}
