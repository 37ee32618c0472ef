-- Files and sinks in memory.
use Rattle.std.specs.Prelude.{◌≡◌, ℕ, ◌-◌, ◌<◌, ◌≤◌, List, ◌++◌, length, take, reverse, find, Option, Contains}
use Rattle.std.specs.Option.{option_map}
use Rattle.std.specs.Str.{bytes_eq}
use Rattle.sv_source.specs.declared.files.Entry.{Entry}
use Rattle.sv_source.specs.declared.files.Loaded.{Loaded}
use Rattle.sv_source.specs.declared.files.Loaded.TheVariants.{Bytes, Absent, TooLong, Failed, Memory}
use Rattle.sv_source.specs.declared.sink.Put.{Put}
use Rattle.sv_source.specs.declared.sink.Put.TheVariants as put

-- what a path holds: the bytes of its last entry
abbrev pub held_in : List Entry → List ℕ → Option (List ℕ)
held_in entries path = option_map (λ e. e.bytes) (find (λ e. bytes_eq e.path path) (reverse entries))

-- files that fail at the loads with these numbers, counted from 1
pub record NumberedFiles : Type 0 where
  pub entries : List Entry
  pub fail : List ℕ
  pub loads : ℕ
  pub faults : ℕ

-- the load with this number fails just where it is one of these
abbrev pub FailsAt : List ℕ → ℕ → Loaded → Type 0
FailsAt fail number (Bytes text) = ¬ (Contains fail number)
FailsAt fail number Absent = ¬ (Contains fail number)
FailsAt fail number TooLong = ¬ (Contains fail number)
FailsAt fail number Failed = Contains fail number
FailsAt fail number Memory = ¬ (Contains fail number)

-- a sink with reserved room: what it took, how much more it takes, and its faults
pub record RoomySink : Type 0 where
  pub bytes : List ℕ
  pub spare : ℕ
  pub faults : ℕ

-- a sink with reserved room that fails at the puts with these numbers, counted from 1
pub record NumberedSink : Type 0 where
  pub bytes : List ℕ
  pub spare : ℕ
  pub fail : List ℕ
  pub puts : ℕ
  pub faults : ℕ

-- the sink takes what fits into its room, and fails where that isn't the whole piece
pub record TakesWhatFits (before after : List ℕ) (spare left : ℕ) (piece : List ℕ) (result : Put) : Type 0 where
  pub bytes : after ≡ before ++ take spare piece
  pub room : left ≡ spare - length piece
  pub whole : length piece ≤ spare → result ≡ put.Ok
  pub cut : spare < length piece → result ≡ put.Failed

-- the sink fails and takes nothing
pub record TakesNothing (before after : NumberedSink) (result : Put) : Type 0 where
  pub failed : result ≡ put.Failed
  pub bytes : after.bytes ≡ before.bytes
  pub room : after.spare ≡ before.spare
