-- What declarations stand for by the lists of a frame, as the code has it.
use Rattle.std.specs.Prelude.{◌≡◌, ℕ, List, Option, Some, None}
use Rattle.sv_types.specs.declared.frame.Frame.{Frame}
use Rattle.sv_types.specs.declared.frame.ParamType.{ParamType}
use Rattle.sv_types.specs.declared.frame.ParamValue.{ParamValue}
use Rattle.sv_types.specs.declared.frame.SignalId.{SignalId}
use Rattle.expr_type.specs.Names.{Thing, Signal, Local, Constant, TypeName, LocalId}
use Rattle.frame_things.specs.declared.things.NamedLocal.{NamedLocal}
use Rattle.frame_things.specs.declared.frame_index.FrameIndex.{FrameIndex}
use Rattle.frame_things.specs.Places.{place_from, places_in}
use Rattle.frame_things.specs.Members.{member_from, members_in}

-- the numbers of the declarations of values and types
abbrev pub value_number : ParamValue → ℕ
value_number v = v.decl

abbrev pub type_number : ParamType → ℕ
type_number t = t.decl

-- the index says of each declaration at which place of the lists it stands first
pub record IsIndexOf (f : Frame) (x : FrameIndex) : Type 0 where
  pub values : (n : ℕ) → places_in x.values n ≡ place_from value_number 0 n f.values
  pub types : (n : ℕ) → places_in x.types n ≡ place_from type_number 0 n f.types
  pub signals : (n : ℕ) (name : List ℕ) → members_in x.signals n name ≡ member_from 0 n name f.signals

-- what was found is what the declaration stands for
abbrev pub IsValue : {R : Type 0} → (R → ParamValue) → Option R → Option Thing → Type 0
IsValue of None t = t ≡ None
IsValue of (Some r) t = t ≡ Some (Constant (of r).of (of r).value)

abbrev pub IsType : {R : Type 0} → (R → ParamType) → Option R → Option Thing → Type 0
IsType of None t = t ≡ None
IsType of (Some r) t = t ≡ Some (TypeName (of r).of)

abbrev pub IsSignal : {R : Type 0} → (R → SignalId) → Option R → Option Thing → Type 0
IsSignal of None t = t ≡ None
IsSignal of (Some r) t = t ≡ Some (Signal (of r).signal (of r).of)

abbrev pub IsMember : {R : Type 0} → (R → SignalId) → Option R → Option SignalId → Type 0
IsMember of None m = m ≡ None
IsMember of (Some r) m = m ≡ Some (of r)

abbrev pub local_id : NamedLocal → LocalId
local_id l = record { decl = l.decl; number = l.number; of = l.of }

abbrev pub IsLocal : {R : Type 0} → (R → NamedLocal) → Option R → Option Thing → Type 0
IsLocal of None t = t ≡ None
IsLocal of (Some r) t = t ≡ Some (Local (of r).number (of r).of)
