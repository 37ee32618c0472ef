-- What operands, formals and names keep.
use Rattle.std.specs.Prelude.{◌≡◌, ◌≤◌, ⊤, ℕ, true, List, [], ◌∷◌, length, Some, Ok, slice_get}
use Rattle.sv_types.specs.declared.expression.Expr.{Expr}
use Rattle.sv_types.specs.declared.frame.ParamType.{ParamType}
use Rattle.sv_types.specs.declared.frame.ParamValue.{ParamValue}
use Rattle.sv_types.specs.declared.frame.SignalId.{SignalId}
use Rattle.sv_types.specs.declared.statement.Formal.{Formal}
use Rattle.sv_types.specs.declared.statement.Function.{Function}
use Rattle.sv_types.specs.declared.types.SvType.{SvType}
use Rattle.sv_types.specs.declared.types.Value.{Value}
use Rattle.sv_types.specs.Layouts.{width_of}
use Rattle.sv_types.specs.Values.{bits}
use Rattle.expr_type.specs.declared.operand.Valued.{Valued}
use Rattle.expr_type.specs.Names.{Called, Context, LocalId, Thing, Signal, Local, Constant, TypeName, Interface, Other, Nothing, is_whole}
use Rattle.expr_type.specs.Operands.{Operand, Plain, Pattern, Stream}
use Rattle.typing_fits.specs.Types.{is_full}
use Rattle.typing_fits.specs.Sound.{IsNarrowType, SoundExpr, Sound, SoundFor}

-- what a pattern gives: an expression of its type, whose operands don't take the context
pub record SoundPattern (e : Expr) (t : SvType) (gs : List Function) : Type 0 where
  pub is : e.of ≡ t
  pub sound : SoundExpr e [] gs

-- an expression whose operands don't take the context either
pub record SoundFixed (v : Valued) (gs : List Function) : Type 0 where
  pub none : v.arithmetic ≡ []
  pub sound : Sound v gs

-- a stream, which has at most 65,536 bits (E701)
pub record SoundStream (v : Valued) (gs : List Function) : Type 0 where
  pub none : v.arithmetic ≡ []
  pub sound : Sound v gs
  pub short : width_of v.expr.of ≤ 65536

-- a value, a pattern that is given to any full type, or a stream
abbrev pub SoundOperand : Operand → List Function → Type 0
SoundOperand (Plain v) gs = Sound v gs
SoundOperand (Pattern tick of) gs = (at : ℕ) (t : SvType) (e : Expr) → is_full t ≡ true → of at t ≡ Ok e → SoundPattern e t gs
SoundOperand (Stream v) gs = SoundStream v gs

abbrev pub AllSoundOperands : List Operand → List Function → Type 0
AllSoundOperands [] gs = ⊤
AllSoundOperands (o ∷ os) gs = SoundOperand o gs × AllSoundOperands os gs

-- expressions that are each given to a type, as far as there are both
abbrev pub AllSoundFor : List Expr → List SvType → List Function → Type 0
AllSoundFor [] ts gs = ⊤
AllSoundFor (e ∷ es) [] gs = ⊤
AllSoundFor (e ∷ es) (t ∷ ts) gs = SoundFor e t gs × AllSoundFor es ts gs

-- formals of full types
abbrev pub AllFormalsFull : List Formal → Type 0
AllFormalsFull [] = ⊤
AllFormalsFull (f ∷ fs) = (is_full f.local.of ≡ true) × AllFormalsFull fs

-- a function that is known at its place, with narrow types
pub record KnownCall (c : Called) (gs : List Function) : Type 0 where
  pub known : slice_get gs c.place ≡ Some c.of
  pub result : IsNarrowType c.of.of
  pub formals : AllFormalsFull c.of.formals

-- a constant with as many bits as its type has
pub record SoundConstant (t : SvType) (v : Value) : Type 0 where
  pub of : IsNarrowType t
  pub long : length (bits v) ≡ width_of t

-- what a name stands for
abbrev pub SoundThing : Thing → Type 0
SoundThing (Signal n t) = IsNarrowType t
SoundThing (Local n t) = IsNarrowType t
SoundThing (Constant t v) = SoundConstant t v
SoundThing (TypeName t) = is_full t ≡ true
SoundThing (Interface n) = ⊤
SoundThing (Other n) = ⊤
SoundThing Nothing = ⊤

abbrev pub AllValuesSound : List ParamValue → Type 0
AllValuesSound [] = ⊤
AllValuesSound (v ∷ vs) = SoundConstant v.of v.value × AllValuesSound vs

abbrev pub AllTypesFull : List ParamType → Type 0
AllTypesFull [] = ⊤
AllTypesFull (t ∷ ts) = (is_full t.of ≡ true) × AllTypesFull ts

-- A signal has at most 2^22 bits. Of a member of an interface that isn't asked: one with more isn't whole where it is named.
pub record SoundSignal (s : SignalId) : Type 0 where
  pub full : is_full s.of ≡ true
  pub narrow : is_whole s.member ≡ true → width_of s.of ≤ 4194304

abbrev pub AllSignalsSound : List SignalId → Type 0
AllSignalsSound [] = ⊤
AllSignalsSound (s ∷ ss) = SoundSignal s × AllSignalsSound ss

abbrev pub AllLocalsNarrow : List LocalId → Type 0
AllLocalsNarrow [] = ⊤
AllLocalsNarrow (l ∷ ls) = IsNarrowType l.of × AllLocalsNarrow ls

-- a text in which signals, but for members of interfaces, constants and locals have at most 2^22 bits, and each part of a type has one
pub record SoundContext (k : Context) : Type 0 where
  pub values : AllValuesSound k.values
  pub types : AllTypesFull k.types
  pub signals : AllSignalsSound k.signals
  pub locals : AllLocalsNarrow k.locals
