-- Names by themselves in a sound text.
use Rattle.std.proofs.Common.{◌≡◌, ℕ, List, [], subst, sym}
use Rattle.std.specs.Prelude.{IfOk, Result, Ok, Err}
use Rattle.sv_tree.specs.declared.names.QualifiedName.{QualifiedName}
use Rattle.sv_tree.specs.Extents.{qualified_first}
use Rattle.sv_types.specs.declared.expression.Form.TheVariants as F
use Rattle.sv_types.specs.declared.statement.Function.{Function}
use Rattle.operand_types.specs.Allowed.{IsNarrow}
use Rattle.expr_type.specs.declared.halt.Halt.{Halt}
use Rattle.expr_type.specs.declared.operand.Valued.{Valued}
use Rattle.expr_type.specs.Answers.{Gives}
use Rattle.expr_type.specs.Names.{Context, Source, Thing, Signal, Local, Constant, TypeName, Interface, Other, Nothing, thing}
use Rattle.expr_type.specs.Operators.{by_itself}
use Rattle.typing_fits.specs.Operands.{SoundContext, SoundThing}
use Rattle.typing_fits.specs.Sound.{Sound}
use Rattle.typing_fits.proofs.Given.{sound-fits}
use Rattle.typing_fits.proofs.Names.{thing-sound}
use Rattle.typing_fits.proofs.Numbers.{constant-value}
use Rattle.typing_fits.proofs.Operators.{as-is, ok-is}
use Rattle.typing_fits.proofs.Selects.{signal-sound, local-sound}
use Rattle.typing_parts.specs.declared.names.Thing as C
use Rattle.typing_parts.specs.declared.names.Thing.TheVariants as T
use Rattle.typing_parts.specs.Things.{StandsFor}
use Rattle.typing_values.specs.Leaves.{as_thing, leaf_of, named_alone}
use Rattle.typing_values.specs.Numbers.{CanBeValued}

pub leaf-sound : (k : Source) (first : ℕ) (x : Thing) (v : Valued) (gs : List Function) → SoundThing x → leaf_of k first x ≡ Ok v → Sound v gs
leaf-sound k first (Signal n t) v gs s h = as-is (by_itself k first t (F.Signal n)) v gs (ok-is (by_itself k first t (F.Signal n)) v h) (signal-sound k first t n gs s)
leaf-sound k first (Local n t) v gs s h = as-is (by_itself k first t (F.Local n)) v gs (ok-is (by_itself k first t (F.Local n)) v h) (local-sound k first t n gs s)
leaf-sound k first (Constant t c) v gs s h = as-is (by_itself k first t (F.Constant c)) v gs (ok-is (by_itself k first t (F.Constant c)) v h) (constant-value k first t c gs s)
leaf-sound k first (TypeName t) v gs s h = absurd (cc)
leaf-sound k first (Interface n) v gs s h = absurd (cc)
leaf-sound k first (Other n) v gs s h = absurd (cc)
leaf-sound k first Nothing v gs s h = absurd (cc)

pub named-sound : (k : Context) (of : QualifiedName) (v : Valued) (gs : List Function) → SoundContext k → named_alone k of ≡ Ok v → Sound v gs
named-sound k of v gs s h = leaf-sound k.source (qualified_first of) (thing k of) v gs (thing-sound k of s) h

pub named-narrow : (k : Context) (of : QualifiedName) (r : Result Valued Halt) → SoundContext k → Gives r (named_alone k of) → IfOk r IsNarrow
named-narrow k of (Ok v) s g = (named-sound k of v [] s g).of.narrow
named-narrow k of (Err h) s g = tt

pub named-fits : (k : Context) (of : QualifiedName) (r : Result Valued Halt) → SoundContext k → Gives r (named_alone k of) → IfOk r (λ v. (fs : List Function) → CanBeValued fs v)
named-fits k of (Ok v) s g = λ fs. sound-fits v fs (named-sound k of v fs s g)
named-fits k of (Err h) s g = tt

-- what a name stands for, as the code has it
pub stands-is : (t : C.Thing) (x : Thing) → StandsFor t x → x ≡ as_thing t
stands-is (T.Signal n t) x h = h
stands-is (T.Local n t) x h = h
stands-is (T.Constant t v) x h = h
stands-is (T.TypeName t) x h = h
stands-is (T.Interface n) x h = h
stands-is (T.Other n) x h = h
stands-is T.Nothing x h = h

pub leaf-by : (k : Context) (of : QualifiedName) (t : C.Thing) (r : Result Valued Halt) → StandsFor t (thing k of) → Gives r (leaf_of k.source (qualified_first of) (as_thing t)) → Gives r (named_alone k of)
leaf-by k of t r h g = subst (λ (z : Thing). Gives r (leaf_of k.source (qualified_first of) z)) (sym (stands-is t (thing k of) h)) g
