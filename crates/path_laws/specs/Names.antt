-- What names stand for, as lowering takes it.
use Rattle.std.specs.Prelude.{◌≡◌, ⊤, ℕ, Bool, true, List, [], ◌∷◌, Some}
use Rattle.sv_types.specs.declared.expression.Expr.{Expr}
use Rattle.sv_types.specs.declared.frame.ParamType.{ParamType}
use Rattle.sv_types.specs.declared.frame.SignalId.{SignalId}
use Rattle.sv_types.specs.declared.types.SvType.{SvType}
use Rattle.sv_types.specs.Surroundings.{local_number}
use Rattle.expr_type.specs.Names.{Context, LocalId, Thing, Signal, Local, Constant, TypeName, Interface, Other, Nothing, member_in}
use Rattle.typed_paths.specs.Typed.{Indexing, IsTypedPath}
use Rattle.path_laws.specs.Bases.{has_plain_bases}

abbrev pub AllSignalsPlain : List SignalId → Type 0
AllSignalsPlain [] = ⊤
AllSignalsPlain (s ∷ ss) = (has_plain_bases s.of ≡ true) × AllSignalsPlain ss

abbrev pub AllLocalsPlain : List LocalId → Type 0
AllLocalsPlain [] = ⊤
AllLocalsPlain (l ∷ ls) = (has_plain_bases l.of ≡ true) × AllLocalsPlain ls

abbrev pub AllTypesPlain : List ParamType → Type 0
AllTypesPlain [] = ⊤
AllTypesPlain (t ∷ ts) = (has_plain_bases t.of ≡ true) × AllTypesPlain ts

-- a text in which no enum in the type of a signal or local has an unpacked base
pub record PlainNames (k : Context) : Type 0 where
  pub signals : AllSignalsPlain k.signals
  pub locals : AllLocalsPlain k.locals

-- nor in the type that a name stands for
pub record PlainText (k : Context) : Type 0 where
  pub names : PlainNames k
  pub types : AllTypesPlain k.types

-- a typed path on what is held under a number and has a type
pub record IsPathOn (number : ℕ) (t : SvType) (e : Expr) : Type 0 where
  pub indices : List Indexing
  pub part : Bool
  pub path : IsTypedPath number t e indices part

-- one on a signal that is a member of an interface, by the number of its declaration
pub record IsPathOnMember (signals : List SignalId) (n : ℕ) (e : Expr) : Type 0 where
  pub name : List ℕ
  pub signal : SignalId
  pub is : member_in n name signals ≡ Some signal
  pub on : IsPathOn signal.signal signal.of e

-- one on what a name stands for, which is no constant
abbrev pub IsPathOf : List SignalId → Thing → Expr → Type 0
IsPathOf signals (Signal n t) e = IsPathOn n t e
IsPathOf signals (Local n t) e = IsPathOn (local_number n) t e
IsPathOf signals (Constant t v) e = ⊥
IsPathOf signals (TypeName t) e = ⊥
IsPathOf signals (Interface n) e = IsPathOnMember signals n e
IsPathOf signals (Other n) e = ⊥
IsPathOf signals Nothing e = ⊥

abbrev pub IsConstant : Thing → Type 0
IsConstant (Signal n t) = ⊥
IsConstant (Local n t) = ⊥
IsConstant (Constant t v) = ⊤
IsConstant (TypeName t) = ⊥
IsConstant (Interface n) = ⊥
IsConstant (Other n) = ⊥
IsConstant Nothing = ⊥
