-- What a step leaves as it is.
use Rattle.std.specs.Prelude.{◌≡◌}
use Rattle.dispatch.specs.Runs.{Kept as RunKept}
use Rattle.record_log.specs.Records.{room}
use Rattle.record_log.specs.declared.Log.{Log}
use Rattle.script.specs.declared.session.Recording.{Recording}

-- A log keeps its memory, and so its room.
pub record SameMemory {T : Type 0} (before after : Log T) : Type 0 where
  pub room : room after ≡ room before
  pub name : after.memory.ghost_name ≡ before.memory.ghost_name

-- A recording keeps the set and the rule of its run, and the memory of its logs.
pub record Kept {R : Type 0} (before after : Recording R) : Type 0 where
  pub run : RunKept before.session.run after.session.run
  pub ends : SameMemory before.ends after.ends
  pub stretches : SameMemory before.stretches after.stretches
