-- Keys of items, as they are typed.
use Rattle.std.specs.Prelude.{◌≡◌, ⊤, ℤ, List, map, Option, Result, Ok, Err}
use Rattle.sv_tree.specs.Extents.{qualified_first}
use Rattle.sv_tree.specs.declared.expressions.Expr.{Expr}
use Rattle.sv_tree.specs.declared.expressions.Select.{Select}
use Rattle.sv_tree.specs.declared.names.QualifiedName.{QualifiedName}
use Rattle.expr_type.specs.declared.halt.Halt.{Halt}
use Rattle.expr_type.specs.declared.halt.Halt.TheVariants as H
use Rattle.expr_type.specs.Expressions as E
use Rattle.expr_type.specs.Expressions.{meaning, select_meaning}
use Rattle.expr_type.specs.Names.{Context, Thing, Signal, Local, Constant, TypeName, Interface, Other, Nothing, thing}
use Rattle.expr_type.specs.Patterns.{named_key}
use Rattle.expr_type.specs.Typings.{Typing}
use Rattle.pattern_types.specs.declared.operand.NameKey.{NameKey}
use Rattle.pattern_types.specs.declared.operand.NameKey.TheVariants as N
use Rattle.pattern_types.specs.Meaning.{key_of_name}

-- the name that an expression is, if it is one alone
abbrev pub alone : Expr → Option QualifiedName
alone e = (meaning e).alone

abbrev pub unselected : QualifiedName → List Select → Option QualifiedName
unselected of ss = E.name_alone of (map select_meaning ss)

-- another key: a constant index
abbrev pub key_number_of : Context → Expr → Typing (Option ℤ)
key_number_of k e = E.key_number k (meaning e)

-- what a name stands for where the type has no members, or want of memory
abbrev pub NameStandsFor : Context → QualifiedName → Result NameKey Halt → Type 0
NameStandsFor k of (Ok n) = key_of_name k.source n ≡ named_key k (qualified_first of) (thing k of)
NameStandsFor k of (Err h) = h ≡ H.Memory

-- a constant by its number, or by what it breaks
abbrev pub key_by : Result (Option ℤ) Halt → Result NameKey Halt
key_by (Ok n) = Ok (N.Number n)
key_by (Err H.Memory) = Err H.Memory
key_by (Err (H.Breaks at rule)) = Ok (N.Breaks at rule)
key_by (Err H.Quiet) = Ok N.Quiet

-- a name that is that of a constant
abbrev pub IsConstantThing : Thing → Type 0
IsConstantThing (Signal n t) = ⊥
IsConstantThing (Local n t) = ⊥
IsConstantThing (Constant t v) = ⊤
IsConstantThing (TypeName t) = ⊥
IsConstantThing (Interface n) = ⊥
IsConstantThing (Other n) = ⊥
IsConstantThing Nothing = ⊥

abbrev pub NamesConstant : Context → QualifiedName → Type 0
NamesConstant k of = IsConstantThing (thing k of)
