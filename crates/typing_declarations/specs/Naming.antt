-- The names of enums, one after the other.
use Rattle.std.specs.Prelude.{◌≡◌, ⊤, ℕ, ◌-◌, ◌<◌, ◌≤◌, Bool, true, false, ◌&&◌, cond, ℤ, List, [], ◌∷◌, ◌++◌, map, length, Option, Some, None, Result, Ok, Err, slice_get}
use Rattle.b4_core.specs.declared.bit.Bit4.{Bit4}
use Rattle.sv_tree.specs.declared.expressions.Expr.{Expr}
use Rattle.sv_tree.specs.declared.types.EnumBase.{EnumBase}
use Rattle.sv_tree.specs.declared.types.EnumName as W
use Rattle.sv_types.specs.declared.frame.ParamValue.{ParamValue}
use Rattle.sv_types.specs.declared.statement.Function.{Function}
use Rattle.sv_types.specs.declared.types.EnumName.{EnumName}
use Rattle.sv_types.specs.declared.types.SvType.{SvType}
use Rattle.sv_types.specs.Layouts.{width_of}
use Rattle.sv_types.specs.Values.{value_of_bits}
use Rattle.expr_type.specs.declared.halt.Halt.{Halt}
use Rattle.expr_type.specs.declared.halt.Halt.TheVariants as H
use Rattle.expr_type.specs.Breaks.{Quiet}
use Rattle.expr_type.specs.Names.{Context, Source, with_values, word}
use Rattle.expr_type.specs.Operands.{constant_in}
use Rattle.expr_type.specs.Expressions.{operand}
use Rattle.expr_type.specs.Types.{NameValue, TypeFound, base_type, enum_found, is_name_number, least_value, most_value, name_value, name_values, unwritten, value_in}
use Rattle.expr_type.specs.Typings.{Typed, Typing, both_by, broken, by_functions, checked, rule, whole}
use Rattle.enum_types.specs.Taken.{Holds}
use Rattle.enum_values.specs.Values.{IsInBase, distinct, last_number, named_by}
use Rattle.typing_scopes.specs.Ahead.{Ahead}
use Rattle.typing_steps.specs.Steps.{StopsBy}
use Rattle.typing_declarations.specs.declared.enum_names.Met.{Met}
use Rattle.typing_declarations.specs.declared.enum_names.Named.{Named}

-- names that have values, as the definitions have them
abbrev pub value_by : SvType → Named → NameValue
value_by t v = named_by t v.at v.bits

abbrev pub values_of : SvType → List Named → List NameValue
values_of t vs = map (value_by t) vs

abbrev pub as_named : SvType → ℕ → Result (List Bit4) Halt → Result NameValue Halt
as_named t at (Ok v) = Ok (named_by t at v)
as_named t at (Err h) = Err h

abbrev pub as_values : SvType → Result (List Named) Halt → Result (List NameValue) Halt
as_values t (Ok vs) = Ok (values_of t vs)
as_values t (Err h) = Err h

-- they are values of the base, which has at most 65,536 bits if there are any
abbrev pub AllInBase : SvType → List Named → Type 0
AllInBase t [] = ⊤
AllInBase t (v ∷ vs) = IsInBase t v.bits × AllInBase t vs

pub record AreMet (t : SvType) (vs : List Named) : Type 0 where
  pub bits : AllInBase t vs
  pub short : 65536 < width_of t → vs ≡ []

pub record IsMet (t : SvType) (m : Met) : Type 0 where
  pub held : Holds t m.taken (values_of t m.names)
  pub names : AreMet t m.names

-- the bits of the last name, if it has a value
abbrev pub bits_in : Option Named → Option (List Bit4)
bits_in None = None
bits_in (Some v) = Some v.bits

abbrev pub last_bits : Met → Option (List Bit4)
last_bits m = cond m.lost None (bits_in (slice_get m.names (length m.names - 1)))

-- a name whose value is written, and each name behind those that were met
abbrev pub written_name : Context → SvType → Met → ℕ → Expr → Typing NameValue
written_name k t m at e =
    checked
    (checked (constant_in k.source (operand k e)) (λ v. checked (by_functions (is_name_number k.source (least_value t) (most_value t) v)) (λ n. whole n.number)))
    (λ n. rule (distinct k.source t at (values_of t m.names) n))

abbrev pub name_of : Context → SvType → Met → W.EnumName → Typing NameValue
name_of k t m n = cond (m.lost && unwritten n.value) (broken Quiet) (name_value k t (values_of t m.names) (last_number t (last_bits m)) n)

abbrev pub with_name : Context → SvType → NameValue → Context
with_name k t v = with_values (value_in k t v ∷ []) k

-- how far a loop over names has come
abbrev pub so_far : Bool → Result (Unit {0}) Halt
so_far false = Ok tt
so_far true = Err H.Quiet

abbrev pub NamesAhead : Context → SvType → Met → List W.EnumName → Typed (List NameValue) → List Function → Type 0
NamesAhead k t m ns row fs =
    Ahead (so_far m.quiet) (λ (vs : List NameValue). values_of t m.names ++ vs) (name_values k t m.lost (values_of t m.names) (last_number t (last_bits m)) ns) row fs

-- it comes further, or stops there
abbrev pub Reaches : {A : Type 0} → Result (Unit {0}) Halt → Type 0 → Typed A → List Function → Type 0
Reaches (Ok u) further row fs = further
Reaches (Err h) further row fs = StopsBy h row fs

-- names of an enum with their values, and as constants of it
abbrev pub enum_name : Source → Named → EnumName
enum_name k v = record { name = word k v.at; value = v.bits }

abbrev pub valued : Context → SvType → Named → ParamValue
valued k t v = record { decl = k.declared v.at; of = t; value = value_of_bits t v.bits }

abbrev pub HaveWidth : ℕ → List Named → Type 0
HaveWidth w [] = ⊤
HaveWidth w (v ∷ vs) = (length v.bits ≡ w) × (w ≤ 4194304) × HaveWidth w vs

-- an enum before the dimensions behind it
abbrev pub values_by : Context → Option SvType → List W.EnumName → Typing (List NameValue)
values_by k None ns = broken Quiet
values_by k (Some b) ns = name_values k b false [] None ns

abbrev pub enum_of : Context → ℕ → Option EnumBase → List W.EnumName → Typing TypeFound
enum_of k at base ns = both_by (base_type k base) (λ o. values_by k o ns) (λ b vs. whole (enum_found k at b vs))
