-- What a log holds.
use Rattle.std.specs.Prelude.{ℕ, cond, List, [], ◌∷◌, ◌++◌, length, take, Result, nat_le, slice_set}
use Rattle.model.specs.Checks.{call}
use Rattle.model.specs.declared.refusal.Refusal.{Refusal}
use Rattle.model.specs.declared.refusal.Refusal.TheVariants.{LogFull}
use Rattle.record_log.specs.declared.Log.{Log}

-- Pushing on a list that has room for so many records: it is full, or the record stands at its end.
abbrev pub pushed : {T : Type 0} → ℕ → List T → T → Result (Unit {0}) Refusal × List T
pushed room records x = call ((nat_le room (length records), LogFull) ∷ []) records tt (records ++ x ∷ [])

module _ {T : Type 0} (log : Log T) where
  -- The records of a log, in the order of their pushing.
  abbrev pub records : List T
  records = take log.count log.memory.now

  -- How many records it has room for.
  abbrev pub room : ℕ
  room = length log.memory.now

  -- What pushing a record answers, and the records after it.
  abbrev pub push : T → Result (Unit {0}) Refusal × List T
  push x = pushed room records x

  -- The memory after pushing a record: it is written behind the last record, and nothing else changes.
  abbrev pub memory_after : T → List T
  memory_after x = cond (nat_le room (length records)) log.memory.now (slice_set log.memory.now (length records) x)
