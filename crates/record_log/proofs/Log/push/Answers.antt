use Rattle.std.proofs.Common.{◌≡◌, false, leb, length, refl, arith, length-set}
use Rattle.std.proofs.lemmas.List.{length-take-le, take_more_set}
use Rattle.std.proofs.lemmas.Bool.{lt-leb}
use Rattle.record_log.specs.Records.{records, room}
use Rattle.record_log.proofs.Log.push.Goals as goal

pub returns : goal.returns
returns g c =
    let log = c.args.self.now in
    let many : length (records log) ≡ log.count = length-take-le log.count log.memory.now log.fits in
    let free : leb (room log) (length (records log)) ≡ false = lt-leb _ _ (omega arith) in
    record {
      answer = rw free;
      records = rw free (take_more_set log.memory.now log.count c.args.record c.if-self.false);
      memory = rw (free, many);
      room = length-set log.memory.now log.count c.args.record;
      name = refl;
    }
