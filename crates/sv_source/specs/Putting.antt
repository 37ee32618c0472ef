-- What a put of bytes on a sink may do.
use Rattle.std.specs.Prelude.{◌≡◌, ℕ, ◌-◌, List, ◌++◌, Option, Some, None}
use Rattle.sv_source.specs.declared.sink.Put.{Put}
use Rattle.sv_source.specs.declared.sink.Put.TheVariants.{Ok, Failed}
use Rattle.sv_source.specs.Faults.{Rose}

-- the bytes that were written, where they are told, and then these
abbrev pub appended : Option (List ℕ) → List ℕ → Option (List ℕ)
appended None bytes = None
appended (Some written) bytes = Some (written ++ bytes)

-- the sink gained the front of the bytes, up to some point
pub record GainsFront (before after : Option (List ℕ)) (bytes : List ℕ) : Type 0 where
  pub front : List ℕ
  pub rest : List ℕ
  pub whole : bytes ≡ front ++ rest
  pub gained : after ≡ appended before front

-- `Ok` appends the bytes, and `Failed` a front of them
abbrev pub Gains : Option (List ℕ) → Option (List ℕ) → List ℕ → Put → Type 0
Gains before after bytes Ok = after ≡ appended before bytes
Gains before after bytes Failed = GainsFront before after bytes

-- `Gains` where the bytes before are known
abbrev pub GainsKnown : Option (List ℕ) → Option (List ℕ) → List ℕ → Put → Type 0
GainsKnown before after bytes result = (known : List ℕ) → before ≡ Some known → Gains (Some known) after bytes result

-- a fault is answered only where the count rose, and `Ok` leaves the count as it was
abbrev pub PutCause : Put → ℕ → ℕ → Type 0
PutCause Ok before now = now ≡ before
PutCause Failed before now = Rose before now

-- within the spare room that the sink tells no put fails, and the bytes are taken off that room
pub record KeepsRoom (before after size : ℕ) (result : Put) : Type 0 where
  pub ok : result ≡ Ok
  pub left : after ≡ before - size
