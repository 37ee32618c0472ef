-- Formals and results by how they are written.
use Rattle.std.proofs.Common.{◌≡◌, List, [], Option, Some, None, Bool, true, false, ◌&&◌, ℕ, refl, sym, ap, ◌∙◌, subst}
use Rattle.std.specs.Prelude.{Result, Ok, Err}
use Rattle.sv_tree.specs.declared.expressions.Dimension.{Dimension}
use Rattle.sv_tree.specs.declared.functions.FormalDirection.{FormalDirection}
use Rattle.sv_tree.specs.declared.functions.FunctionResult.{FunctionResult}
use Rattle.sv_tree.specs.declared.functions.FunctionResult.TheVariants as R
use Rattle.sv_tree.specs.declared.ports.PortText.{PortText}
use Rattle.sv_tree.specs.declared.ports.PortText.TheVariants as P
use Rattle.sv_tree.specs.declared.types.TypeText.{TypeText}
use Rattle.sv_types.specs.declared.statement.Function.{Function}
use Rattle.sv_types.specs.declared.statement.Way.{Way}
use Rattle.expr_type.specs.declared.halt.Halt.{Halt}
use Rattle.expr_type.specs.declared.halt.Halt.TheVariants as H
use Rattle.expr_type.specs.Functions.{Before, FormalFound, ResultFound, formal_text, function_result, type_before, typed_formal, way_by}
use Rattle.expr_type.specs.Names.{Context}
use Rattle.expr_type.specs.Shapes.{one_bit}
use Rattle.expr_type.specs.Types.{TypeFound, only, typed_text}
use Rattle.routine_laws.specs.Sound.{PerhapsType}
use Rattle.routine_laws.specs.Texts.{port_written, result_written}
use Rattle.typing_fits.specs.Operands.{AllValuesSound}
use Rattle.typing_fits.proofs.Full.{and-left, and-right}
use Rattle.typing_steps.specs.Steps.{TypesTo}
use Rattle.typing_walks.specs.WrittenTypes.{dims_written, type_written}
use Rattle.typing_declarations.specs.Giving.{no_result, result_typed, with_dims}

-- the type of a name alone
pub before-none : (b : Before) (fs : List Function) → b.of ≡ None → TypesTo {A = TypeFound} (Err H.Quiet) (type_before b None fs) fs
before-none b fs is = subst (λ (o : Option TypeFound). TypesTo {A = TypeFound} (Err H.Quiet) (type_before (record { way = b.way; of = o }) None fs) fs) (sym is) (record { quiet = refl; functions = refl })

pub before-found : (b : Before) (f : TypeFound) (fs : List Function) → b.of ≡ Some f → TypesTo (Ok f) (type_before b None fs) fs
before-found b f fs is = subst (λ (o : Option TypeFound). TypesTo (Ok f) (type_before (record { way = b.way; of = o }) None fs) fs) (sym is) refl

pub before-one : (b : Before) (o : Option FormalDirection) (r : Result TypeFound Halt) (fs : List Function) → o ≡ None → TypesTo r (type_before b None fs) fs → TypesTo r (type_before b o fs) fs
before-one b o r fs is p = subst (λ (d : Option FormalDirection). TypesTo r (type_before b d fs) fs) (sym is) p

pub before-way : (b : Before) (o : Option FormalDirection) (d : FormalDirection) (f : TypeFound) (fs : List Function) → o ≡ Some d → f ≡ only one_bit → TypesTo (Ok f) (type_before b o fs) fs
before-way b o d f fs is same =
    subst (λ (x : Option FormalDirection). TypesTo (Ok f) (type_before b x fs) fs) (sym is) (subst (λ (g : TypeFound). TypesTo (Ok g) (type_before b (Some d) fs) fs) (sym same) refl)

pub perhaps-names : (o : Option TypeFound) (f : TypeFound) (gs : List Function) → o ≡ Some f → PerhapsType o gs → AllValuesSound f.names
perhaps-names o f gs is s =
    let whole : PerhapsType (Some f) gs = subst (λ (x : Option TypeFound). PerhapsType x gs) is s in
    whole.names

pub only-sound : (f : TypeFound) → f ≡ only one_bit → AllValuesSound f.names
only-sound f is = subst (λ (g : TypeFound). AllValuesSound g.names) (sym is) tt

pub ruleset befores = (before-none, before-found, before-one, before-way, perhaps-names, only-sound)

-- what is written
pub typed-type : (p : PortText) (of : TypeText) (name : ℕ) (ds : List Dimension) → p ≡ P.Typed of name ds → port_written p ≡ true → type_written of ≡ true
typed-type p of name ds is w = and-left (type_written of) (dims_written ds) (subst (λ (x : PortText). port_written x ≡ true) is w)

pub typed-dims : (p : PortText) (of : TypeText) (name : ℕ) (ds : List Dimension) → p ≡ P.Typed of name ds → port_written p ≡ true → dims_written ds ≡ true
typed-dims p of name ds is w = and-right (type_written of) (dims_written ds) (subst (λ (x : PortText). port_written x ≡ true) is w)

pub bare-dims : (p : PortText) (name : ℕ) (ds : List Dimension) → p ≡ P.Bare name ds → port_written p ≡ true → dims_written ds ≡ true
bare-dims p name ds is w = subst (λ (x : PortText). port_written x ≡ true) is w

-- a formal
module _ (k : Context) (b : Before) (d : Option FormalDirection) (way : Way) (text : PortText) (name : ℕ) (ds : List Dimension) (r : Result FormalFound Halt) (fs gs : List Function) where
  pub typed-arm : (of : TypeText) → text ≡ P.Typed of name ds → way ≡ way_by b.way d → TypesTo r (typed_formal k way (typed_text of k) name ds true fs) gs → TypesTo r (formal_text k b d text fs) gs
  typed-arm of is same p =
      subst (λ (x : PortText). TypesTo r (formal_text k b d x fs) gs) (sym is)
      (subst (λ (w : Way). TypesTo r (typed_formal k w (typed_text of k) name ds true fs) gs) same p)

  pub bare-arm : text ≡ P.Bare name ds → way ≡ way_by b.way d → TypesTo r (typed_formal k way (type_before b d) name ds false fs) gs → TypesTo r (formal_text k b d text fs) gs
  bare-arm is same p =
      subst (λ (x : PortText). TypesTo r (formal_text k b d x fs) gs) (sym is)
      (subst (λ (w : Way). TypesTo r (typed_formal k w (type_before b d) name ds false fs) gs) same p)

pub modport-arm : (k : Context) (b : Before) (d : Option FormalDirection) (text : PortText) (of dot modport name : ℕ) (fs : List Function) → text ≡ P.Modport of dot modport name → TypesTo {A = FormalFound} (Err H.Quiet) (formal_text k b d text fs) fs
modport-arm k b d text of dot modport name fs is =
    subst (λ (x : PortText). TypesTo {A = FormalFound} (Err H.Quiet) (formal_text k b d x fs) fs) (sym is) (record { quiet = refl; functions = refl })

-- what a function gives
pub value-written : (x : FunctionResult) (of : TypeText) → x ≡ R.Value of → result_written x ≡ true → type_written of ≡ true
value-written x of is w = subst (λ (y : FunctionResult). result_written y ≡ true) is w

pub value-arm : (k : Context) (name : ℕ) (ds : List Dimension) (x : FunctionResult) (of : TypeText) (r : Result ResultFound Halt) (fs gs : List Function) → x ≡ R.Value of
    → TypesTo r (result_typed k.source name (with_dims k (typed_text of k) ds) fs) gs → TypesTo r (function_result k name ds x fs) gs
value-arm k name ds x of r fs gs is p = subst (λ (y : FunctionResult). TypesTo r (function_result k name ds y fs) gs) (sym is) p

pub void-arm : (k : Context) (name : ℕ) (ds : List Dimension) (x : FunctionResult) (keyword : ℕ) (made : ResultFound) (fs : List Function) → x ≡ R.Void keyword → made ≡ no_result → TypesTo (Ok made) (function_result k name ds x fs) fs
void-arm k name ds x keyword made fs is same =
    subst (λ (y : FunctionResult). TypesTo (Ok made) (function_result k name ds y fs) fs) (sym is)
    (subst (λ (z : ResultFound). TypesTo (Ok z) (function_result k name ds (R.Void keyword) fs) fs) (sym same) refl)

pub ruleset arms = (modport-arm, void-arm)
