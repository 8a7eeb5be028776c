use Rattle.model.proofs.Processor.{processor_law}
use Rattle.model.proofs.law.proved.processor_law.Goals as goal

pub returns : goal.returns
returns c = processor_law
