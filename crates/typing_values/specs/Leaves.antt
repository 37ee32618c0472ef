-- Names without selects, as values.
use Rattle.std.specs.Prelude.{ℕ, Ok, Err}
use Rattle.sv_tree.specs.Extents.{qualified_first}
use Rattle.sv_tree.specs.declared.names.QualifiedName.{QualifiedName}
use Rattle.sv_types.specs.declared.expression.Form.TheVariants as F
use Rattle.expr_type.specs.declared.operand.Valued.{Valued}
use Rattle.expr_type.specs.Breaks.{Quiet}
use Rattle.expr_type.specs.Names.{Context, Source, Thing, Signal, Local, Constant, TypeName, Interface, Other, Nothing, thing}
use Rattle.expr_type.specs.Operators.{by_itself}
use Rattle.typing_parts.specs.declared.names.Thing as C
use Rattle.typing_parts.specs.declared.names.Thing.TheVariants as T
use Rattle.expr_type.specs.Typings.{Checked}

-- what is no value breaks nothing here
abbrev pub leaf_of : Source → ℕ → Thing → Checked Valued
leaf_of k first (Signal n t) = Ok (by_itself k first t (F.Signal n))
leaf_of k first (Local n t) = Ok (by_itself k first t (F.Local n))
leaf_of k first (Constant t v) = Ok (by_itself k first t (F.Constant v))
leaf_of k first (TypeName t) = Err Quiet
leaf_of k first (Interface n) = Err Quiet
leaf_of k first (Other n) = Err Quiet
leaf_of k first Nothing = Err Quiet

-- a name by itself
abbrev pub named_alone : Context → QualifiedName → Checked Valued
named_alone k of = leaf_of k.source (qualified_first of) (thing k of)

-- what a name stands for, of what the code has
abbrev pub as_thing : C.Thing → Thing
as_thing (T.Signal n t) = Signal n t.now
as_thing (T.Local n t) = Local n t.now
as_thing (T.Constant t v) = Constant t.now v.now
as_thing (T.TypeName t) = TypeName t.now
as_thing (T.Interface n) = Interface n
as_thing (T.Other n) = Other n
as_thing T.Nothing = Nothing
