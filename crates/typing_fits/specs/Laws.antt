-- The laws: what each rule of typing keeps, and what that gives to who values constants.
use Rattle.std.specs.Prelude.{◌≡◌, ◌<◌, ℕ, Bool, true, List, ◌∷◌, ◌++◌, length, Ok}
use Rattle.b4_core.specs.declared.bit.Bit4.{Bit4}
use Rattle.sv_tree.specs.declared.names.QualifiedName.{QualifiedName}
use Rattle.sv_tree.specs.declared.operators.BinaryOperator.{BinaryOperator}
use Rattle.sv_tree.specs.declared.operators.UnaryOperator.{UnaryOperator}
use Rattle.sv_types.specs.declared.expression.Expr.{Expr}
use Rattle.sv_types.specs.declared.expression.Form.TheVariants as F
use Rattle.sv_types.specs.declared.statement.Function.{Function}
use Rattle.sv_types.specs.declared.types.SvType.{SvType}
use Rattle.sv_types.specs.declared.types.Value.{Value}
use Rattle.sv_types.specs.Layouts.{layout, width_of}
use Rattle.sv_types.specs.Surroundings.{Parameter}
use Rattle.sv_types.specs.Operators.{assigned_width}
use Rattle.sv_types.specs.Expressions.{meaning}
use Rattle.sv_types.specs.Values.{bits, value_of_bits}
use Rattle.eval_parts.specs.Limits.{Fits, FitsAlone}
use Rattle.eval_forms.specs.Callees.{formals_in}
use Rattle.expr_type.specs.declared.operand.Valued.{Valued}
use Rattle.expr_type.specs.declared.step.Step.{Step}
use Rattle.expr_type.specs.Shapes.{integer}
use Rattle.expr_type.specs.Names.{Called, Context, Source, thing}
use Rattle.expr_type.specs.Operands as X
use Rattle.expr_type.specs.Operands.{Operand}
use Rattle.expr_type.specs.Operators as O
use Rattle.expr_type.specs.Operators.{Alternative, by_itself}
use Rattle.expr_type.specs.Selects.{stepped, is_index}
use Rattle.expr_type.specs.Forms as R
use Rattle.expr_type.specs.Patterns.{Parts, fitted}
use Rattle.typing_fits.specs.Types.{is_full}
use Rattle.typing_fits.specs.Sound.{Extends, Knows, IsNarrowType, Sound, SoundAlone, AllSoundAlone, SoundFor}
use Rattle.typing_fits.specs.Selects.{SoundIndex, SoundStep}
use Rattle.typing_fits.specs.Alternatives.{AllSoundIn}
use Rattle.typing_fits.specs.Operands.{SoundPattern, SoundOperand, AllSoundOperands, KnownCall, SoundConstant, SoundThing, SoundContext}
use Rattle.typing_fits.specs.Patterns.{AllSoundItems}

-- operators, `?:`, `inside` and concatenations
pub record OperatorsAreSound : Type 0 where
  pub binary : (op : BinaryOperator) (k : Source) (at : ℕ) (l r v : Valued) (gs : List Function) → O.binary_of op k at l r ≡ Ok v → Sound l gs → Sound r gs → Sound v gs
  pub unary : (op : UnaryOperator) (k : Source) (at : ℕ) (v u : Valued) (gs : List Function) → O.unary_of op k at v ≡ Ok u → Sound v gs → Sound u gs
  pub choice : (k : Source) (at : ℕ) (on l r v : Valued) (gs : List Function) → O.choice_of k at on l r ≡ Ok v → Sound on gs → Sound l gs → Sound r gs → Sound v gs
  pub inside : (k : Source) (at : ℕ) (v u : Valued) (as' : List Alternative) (gs : List Function) → O.inside_of k at v as' ≡ Ok u → Sound v gs → AllSoundIn as' gs → Sound u gs
  pub concat : (k : Source) (opening : ℕ) (e : Expr) (es : List Expr) (v : Valued) (gs : List Function) → O.concat_of k opening (e ∷ es) ≡ Ok v → AllSoundAlone (e ∷ es) gs → Sound v gs
  pub repeat : (k : Source) (opening n : ℕ) (e : Expr) (es : List Expr) (v : Valued) (gs : List Function) → O.repeat_of k opening n (e ∷ es) ≡ Ok v → 0 < n → AllSoundAlone (e ∷ es) gs → Sound v gs
  pub stream : (k : Source) (opening : ℕ) (reversed : Bool) (n : ℕ) (e : Expr) (es : List Expr) (v : Valued) (gs : List Function) → R.stream_of k opening reversed n (e ∷ es) ≡ Ok v → AllSoundAlone (e ∷ es) gs → Sound v gs

-- selects, with the members and elements of the types that they select from
pub record SelectsAreSound : Type 0 where
  pub step : (k : Source) (v u : Valued) (t : Step) (gs : List Function) → stepped k v t ≡ Ok u → Sound v gs → SoundStep t gs → Sound u gs
  pub index : (k : Source) (v u : Valued) (gs : List Function) → is_index k v ≡ Ok u → Sound v gs → SoundIndex u gs

-- names, numbers and constants
pub record ValuesAreSound : Type 0 where
  pub thing : (k : Context) (of : QualifiedName) → SoundContext k → SoundThing (thing k of)
  pub signal : (k : Source) (first : ℕ) (t : SvType) (n : ℕ) (gs : List Function) → IsNarrowType t → Sound (by_itself k first t (F.Signal n)) gs
  pub local : (k : Source) (first : ℕ) (t : SvType) (n : ℕ) (gs : List Function) → IsNarrowType t → Sound (by_itself k first t (F.Local n)) gs
  pub constant : (k : Source) (first : ℕ) (t : SvType) (v : Value) (gs : List Function) → SoundConstant t v → Sound (by_itself k first t (F.Constant v)) gs
  pub value : (t : SvType) (v : List Bit4) → length v ≡ width_of t → length (bits (value_of_bits t v)) ≡ width_of t
  pub decimal : (k : Source) (at : ℕ) (v : Valued) (gs : List Function) → R.decimal k at ≡ Ok v → Sound v gs
  pub based : (k : Source) (at : ℕ) (v : Valued) (gs : List Function) → R.based k at ≡ Ok v → Sound v gs
  pub sized : (k : Source) (size at : ℕ) (v : Valued) (gs : List Function) → R.sized_number k size at ≡ Ok v → Sound v gs
  pub fill : (k : Source) (at : ℕ) (v : Valued) (gs : List Function) → R.fill k at ≡ Ok v → Sound v gs

-- casts and system functions
pub record CastsAreSound : Type 0 where
  pub to_type : (k : Source) (first : ℕ) (t : SvType) (i : R.Inside) (v : Valued) (gs : List Function) → R.type_cast k first t i ≡ Ok v → is_full t ≡ true → SoundOperand i.of gs → Sound v gs
  pub to_size : (k : Source) (first n : ℕ) (i : ℕ × Valued) (v : Valued) (gs : List Function) → R.size_cast k first n i ≡ Ok v → 0 < n → Sound i.1 gs → Sound v gs
  pub to_sign : (k : Source) (first : ℕ) (s : Bool) (v : Valued) (gs : List Function) → Sound v gs → Sound (R.with_sign k first s v) gs
  pub bits : (k : Source) (name w : ℕ) (gs : List Function) → Sound (R.bits_number k name w) gs
  pub clog2 : (k : Source) (name : ℕ) (v : Valued) (gs : List Function) → Sound v gs → Sound (by_itself k name integer (F.Clog2 v.expr)) gs

-- operands, as they stand alone or are given to a type; patterns and calls
pub record OperandsAreSound : Type 0 where
  pub value : (k : Source) (o : Operand) (v : Valued) (gs : List Function) → X.is_value k o ≡ Ok v → SoundOperand o gs → Sound v gs
  pub bits : (k : Source) (v u : Valued) (gs : List Function) → X.has_bits k v ≡ Ok u → Sound v gs → Sound u gs
  pub parenthesized : (opening : ℕ) (o : Operand) (gs : List Function) → SoundOperand o gs → SoundOperand (X.parenthesized opening o) gs
  pub unstreamed : (k : Source) (o p : Operand) (gs : List Function) → X.no_stream k o ≡ Ok p → SoundOperand o gs → SoundOperand p gs
  pub given : (k : Source) (t : SvType) (o : Operand) (e : Expr) (gs : List Function) → X.given k t o ≡ Ok e → is_full t ≡ true → SoundOperand o gs → SoundFor e t gs
  pub passed : (k : Source) (t : SvType) (o : Operand) (e : Expr) (gs : List Function) → X.passed k t o ≡ Ok e → is_full t ≡ true → SoundOperand o gs → SoundFor e t gs
  pub constant : (k : Source) (o : Operand) (v : Valued) (gs : List Function) → X.is_constant_value k o ≡ Ok v → SoundOperand o gs → Sound v gs
  pub constant_given : (k : Source) (t : SvType) (o : Operand) (e : Expr) (gs : List Function) → X.constant_of k t o gs ≡ Ok e → is_full t ≡ true → SoundOperand o gs → SoundFor e t gs
  pub constant_alone : (k : Source) (v : Valued) (e : Expr) (gs : List Function) → X.constant_alone k v gs ≡ Ok e → Sound v gs → SoundAlone e gs
  pub pattern : (k : Context) (tick : ℕ) (p : Parts) (at : ℕ) (t : SvType) (e : Expr) (gs : List Function) → fitted k tick p at t ≡ Ok e → is_full t ≡ true → AllSoundItems p.items gs → SoundPattern e t gs
  pub call : (k : Source) (first name : ℕ) (c : Called) (os : List Operand) (v : Valued) (gs : List Function) → R.call_of k first name c os ≡ Ok v → KnownCall c gs → AllSoundOperands os gs → Sound v gs

-- Evaluation may value what is sound: alone, or as it is given to a type; and what is sound stays so where more functions are known.
pub record SoundExpressionsFit : Type 0 where
  pub alone : (v : Valued) (gs : List Function) → Sound v gs → FitsAlone (meaning v.expr) (formals_in gs)
  pub by_itself : (e : Expr) (gs : List Function) (fs : ℕ → List Parameter) → SoundAlone e gs → Knows gs fs → FitsAlone (meaning e) fs
  pub given : (e : Expr) (t : SvType) (gs : List Function) (fs : ℕ → List Parameter) → SoundFor e t gs → Knows gs fs → Fits (meaning e) fs (assigned_width (layout t).two_state (meaning e))
  pub knows : (gs : List Function) → Knows gs (formals_in gs)
  pub more : (gs hs : List Function) → Extends gs (gs ++ hs)
  pub later : (v : Valued) (gs hs : List Function) → Extends gs hs → Sound v gs → Sound v hs
  pub operand_later : (o : Operand) (gs hs : List Function) → Extends gs hs → SoundOperand o gs → SoundOperand o hs
