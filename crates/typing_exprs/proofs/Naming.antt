-- Casts by what a name in front of them stands for.
use Rattle.std.proofs.Common.{◌≡◌, List, map, Option, Some, None, refl, subst}
use Rattle.std.specs.Prelude.{Result, Ok, Err, IfOk}
use Rattle.std.specs.Option.{option_map}
use Rattle.sv_tree.specs.Extents.{qualified_first}
use Rattle.sv_tree.specs.declared.expressions.Cast.{Cast}
use Rattle.sv_tree.specs.declared.expressions.Select.{Select}
use Rattle.sv_tree.specs.declared.names.QualifiedName.{QualifiedName}
use Rattle.sv_types.specs.declared.statement.Function.{Function}
use Rattle.sv_types.specs.declared.types.SvType.{SvType}
use Rattle.expr_type.specs.declared.halt.Halt.{Halt}
use Rattle.expr_type.specs.declared.operand.Valued.{Valued}
use Rattle.expr_type.specs.Expressions.{select_meaning}
use Rattle.expr_type.specs.Forms as F
use Rattle.expr_type.specs.Names.{Context, thing}
use Rattle.expr_type.specs.Operands.{Operand}
use Rattle.expr_type.specs.Operands as V
use Rattle.expr_type.specs.Typings.{Typing, whole}
use Rattle.typing_steps.specs.Steps.{TypesTo}
use Rattle.typing_steps.proofs.Combining.{checked-fine, checked-stops}
use Rattle.typing_patterns.specs.Insides.{inside_of}
use Rattle.typing_patterns.specs.Sized.{typed_by}
use Rattle.typing_values.specs.Numbers.{CanBeValued}
use Rattle.typing_values.specs.Parts.{dimensioned, named_path, to_name}
use Rattle.typing_exprs.specs.Named.{PathFits, size_named}

abbrev put_plain : Valued → Typing Operand
put_plain v = whole (V.Plain v)

pub plain-fine : (x : Typing Valued) (fs gs : List Function) (v : Valued) → TypesTo (Ok v) (x fs) gs → TypesTo (Ok (V.Plain v)) (F.plain x fs) gs
plain-fine x fs gs v h = checked-fine x put_plain fs gs gs v (Ok (V.Plain v)) h refl

pub plain-stops : (x : Typing Valued) (fs gs : List Function) (h : Halt) → TypesTo {A = Valued} (Err h) (x fs) gs → TypesTo {A = Operand} (Err h) (F.plain x fs) gs
plain-stops x fs gs h t = checked-stops x put_plain fs gs h t

pub ruleset plains = (plain-fine, plain-stops)

-- a size that can be valued
pub path-fits : (k : Context) (of : QualifiedName) (ss : List Select) (fs gs : List Function) (r : Result Valued Halt) → PathFits k of ss fs → TypesTo r (named_path k of ss fs) gs → IfOk r (CanBeValued gs)
path-fits k of ss fs gs (Ok v) p h = p.fits v gs h
path-fits k of ss fs gs (Err e) p h = tt

-- a type, or a size
abbrev by-kind : Context → QualifiedName → List Select → Cast → Option SvType → Typing Valued
by-kind k of ss c o = elim (option_map (λ t. F.dimensioned k.source t (F.dimensions k (map select_meaning ss))) o) [
  | Some t ↦ F.by_type k.source (qualified_first of) t (inside_of k c)
  | None ↦ F.by_size k.source (qualified_first of) (F.plain (F.named k of (map select_meaning ss))) (inside_of k c)
]

pub type-named : (k : Context) (of : QualifiedName) (ss : List Select) (c : Cast) (t : SvType) (r : Result Valued Halt) (fs gs : List Function) → Some t ≡ F.type_of_thing (thing k of)
    → TypesTo r (typed_by k (qualified_first of) (dimensioned k t ss) c fs) gs → TypesTo r (to_name k of ss c fs) gs
type-named k of ss c t r fs gs is h = subst (λ (o : Option SvType). TypesTo r (by-kind k of ss c o fs) gs) is h

pub size-is-named : (k : Context) (of : QualifiedName) (ss : List Select) (c : Cast) (r : Result Valued Halt) (fs gs : List Function) → None ≡ F.type_of_thing (thing k of)
    → TypesTo r (size_named k of ss c fs) gs → TypesTo r (to_name k of ss c fs) gs
size-is-named k of ss c r fs gs is h = subst (λ (o : Option SvType). TypesTo r (by-kind k of ss c o fs) gs) is h

pub ruleset names = (type-named, size-is-named)
