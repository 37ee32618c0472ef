-- Typings whose breaks stand in a part of a text, in its order.
use Rattle.std.specs.Prelude.{ℕ, suc, ◌≤◌, ◌<◌, List, [], ◌∷◌, Option, Some, None, Ok, Err}
use Rattle.sv_types.specs.declared.statement.Function.{Function}
use Rattle.expr_type.specs.Breaks.{Within}
use Rattle.expr_type.specs.Typings.{Checked, Typing}
use Rattle.sv_types.specs.declared.types.SvType.{SvType}
use Rattle.expr_type.specs.Names.{Context}
use Rattle.expr_type.specs.declared.operand.Valued.{Valued}
use Rattle.expr_type.specs.Operands.{Operand, Plain, Pattern, Stream}
use Rattle.sv_tree.specs.declared.expressions.Expr.{Expr-F}
use Rattle.sv_tree.specs.declared.operators.BinaryOperator.{BinaryOperator}
use Rattle.sv_tree.specs.declared.operators.UnaryOperator.{UnaryOperator}
use Rattle.sv_tree.specs.Extents.{qualified_first}
use Rattle.sv_tree.specs.declared.expressions.Select.{Select-F}
use Rattle.sv_tree.specs.declared.names.QualifiedName.{QualifiedName}
use Rattle.expr_type.specs.declared.step.Step.{Step}
use Rattle.expr_type.specs.declared.step.Step.TheVariants.{Member, Index, Part, Slide}
use Rattle.expr_type.specs.Forms.{SelectMeaning}
use Rattle.expr_type.specs.Expressions.{Meaning, expr_step, select_step}

-- the breaks stand from one token up to, but not including, another one
abbrev pub Placed : {A : Type 0} → ℕ → ℕ → ℕ → Checked A → Type 0
Placed i low high (Ok a) = Unit {0}
Placed i low high (Err b) = Within b i low high

abbrev pub PlacedTyping : {A : Type 0} → ℕ → ℕ → ℕ → Typing A → Type 0
PlacedTyping i low high x = (fs : List Function) → Placed i low high (x fs).result

-- parts that stand behind one another
abbrev pub InTurn : {A : Type 0} → ℕ → ℕ → ℕ → List (Typing A) → Type 0
InTurn i low high [] = low ≤ high
InTurn i low high (x ∷ xs) = (between : ℕ) × (low ≤ between) × (between ≤ high) × PlacedTyping i low between x × InTurn i between high xs

-- tokens that ascend in a part of a text
abbrev pub Ascend : ℕ → ℕ → List ℕ → Type 0
Ascend low high [] = Unit {0}
Ascend low high (at ∷ ats) = (low ≤ at) × (at < high) × Ascend (suc at) high ats

-- a typed expression of a part of a text: its first token, with parentheses and without, and the operators in it stand there
pub record Stands (low high : ℕ) (v : Valued) : Type 0 where
  pub begins : low ≤ v.begins
  pub inner : v.begins ≤ v.first
  pub from : low ≤ v.first
  pub before : v.first < high
  pub operators : Ascend low high v.arithmetic

-- what is made of whole parts stands in the part of the text, and so do its breaks
abbrev pub StandsIf : ℕ → ℕ → ℕ → Checked Valued → Type 0
StandsIf i low high (Ok v) = Stands low high v
StandsIf i low high (Err b) = Within b i low high

abbrev pub StandsTyping : ℕ → ℕ → ℕ → Typing Valued → Type 0
StandsTyping i low high x = (fs : List Function) → StandsIf i low high (x fs).result

-- an operand: a pattern's breaks stand there too, whatever it is given to
abbrev pub OperandStands : ℕ → ℕ → ℕ → Operand → Type 0
OperandStands i low high (Plain v) = Stands low high v
OperandStands i low high (Pattern tick of) = (low ≤ tick) × (tick < high) × ((at : ℕ) (t : SvType) → Placed i low high (of at t))
OperandStands i low high (Stream v) = Stands low high v

abbrev pub OperandIf : ℕ → ℕ → ℕ → Checked Operand → Type 0
OperandIf i low high (Ok o) = OperandStands i low high o
OperandIf i low high (Err b) = Within b i low high

abbrev pub OperandTyping : ℕ → ℕ → ℕ → Typing Operand → Type 0
OperandTyping i low high x = (fs : List Function) → OperandIf i low high (x fs).result

-- functions whose breaks stand in the order of a text of theirs
abbrev pub RoutinesInOrder : Context → Type 0
RoutinesInOrder k = (n : ℕ) (fs : List Function) → ((i : ℕ) × (low : ℕ) × (high : ℕ) × Placed i low high (k.routine n fs).result)

-- An expression in a part of a text, in any context: it stands there, and so do its breaks, in the order of the text.
abbrev pub InOrder : ℕ → ℕ → Meaning → Type 0
InOrder low high e = (k : Context) → RoutinesInOrder k → OperandTyping k.source.instance low high (e.typed k)

-- expressions that stand behind one another
abbrev pub AllInOrder : ℕ → ℕ → List Meaning → Type 0
AllInOrder low high [] = low ≤ high
AllInOrder low high (e ∷ es) = (between : ℕ) × (low ≤ between) × (between ≤ high) × InOrder low between e × AllInOrder between high es

-- selects that stand behind one another, each with the member that it names
abbrev pub StepStands : ℕ → ℕ → Step → Type 0
StepStands low high (Member name) = (low ≤ name) × (name < high)
StepStands low high (Index opening v) = (low ≤ opening) × (opening < high)
StepStands low high (Part opening left right) = (low ≤ opening) × (opening < left.first) × (left.first < high)
StepStands low high (Slide opening up v n) = (low ≤ opening) × (opening < high)

abbrev pub StepIf : ℕ → ℕ → ℕ → Checked Step → Type 0
StepIf i low high (Ok t) = StepStands low high t
StepIf i low high (Err b) = Within b i low high

abbrev pub MemberStands : ℕ → ℕ → Option ℕ → Type 0
MemberStands low high None = Unit {0}
MemberStands low high (Some at) = (low ≤ at) × (at < high)

pub record SelectInOrder (low high : ℕ) (s : SelectMeaning) : Type 0 where
  pub step : (k : Context) → RoutinesInOrder k → (fs : List Function) → StepIf k.source.instance low high (s.step k fs).result
  pub member : MemberStands low high s.member

abbrev pub SelectsInOrder : ℕ → ℕ → List SelectMeaning → Type 0
SelectsInOrder low high [] = low ≤ high
SelectsInOrder low high (s ∷ ss) = (between : ℕ) × (low ≤ between) × (between ≤ high) × SelectInOrder low between s × SelectsInOrder between high ss

-- Expressions whose parts stand in the order of the text stand in it: operators, `?:`, parentheses, concatenations, replications,
-- names with the selects behind them, calls, and numbers.
pub record FormsKeepOrder : Type 0 where
  pub binary : (left : Meaning) (op : BinaryOperator) (at : ℕ) (right : Meaning) (low high : ℕ) → low ≤ at → at < high → InOrder low at left → InOrder (suc at) high right → InOrder low high (expr_step (Expr-F.Binary left op at right))
  pub unary : (op : UnaryOperator) (at : ℕ) (operand : Meaning) (high : ℕ) → InOrder (suc at) high operand → InOrder at high (expr_step (Expr-F.Unary op at operand))
  pub parenthesized : (opening : ℕ) (inner : Meaning) (closing : ℕ) → InOrder (suc opening) closing inner → InOrder opening (suc closing) (expr_step (Expr-F.«Expr::Parenthesized» opening inner closing None))
  pub conditional : (test : Meaning) (question : ℕ) (first : Meaning) (colon : ℕ) (second : Meaning) (low high : ℕ) → low ≤ question → question < colon → colon < high → InOrder low question test → InOrder (suc question) colon first → InOrder (suc colon) high second → InOrder low high (expr_step (Expr-F.Conditional test question first colon second))
  pub concatenation : (opening : ℕ) (items : List Meaning) (closing : ℕ) → opening < closing → AllInOrder (suc opening) closing items → InOrder opening (suc closing) (expr_step (Expr-F.Concatenation opening items closing))
  pub replication : (opening : ℕ) (times : Meaning) (inner : ℕ) (items : List Meaning) (inner_closing closing : ℕ) → opening < inner → inner < inner_closing → inner_closing < closing → InOrder (suc opening) inner times → AllInOrder (suc inner) inner_closing items → InOrder opening (suc closing) (expr_step (Expr-F.«Expr::Replication» opening times inner items inner_closing closing))
  pub name : (of : QualifiedName) (selects : List SelectMeaning) (high : ℕ) → qualified_first of ≤ of.name → SelectsInOrder (suc of.name) high selects → InOrder (qualified_first of) high (expr_step (Expr-F.«Expr::Name» of selects None))
  pub call : (of : QualifiedName) (opening : ℕ) (arguments : List Meaning) (closing : ℕ) → qualified_first of ≤ of.name → of.name < opening → opening < closing → AllInOrder (suc opening) closing arguments → InOrder (qualified_first of) (suc closing) (expr_step (Expr-F.Call of opening arguments closing None))
  pub member : (dot name : ℕ) → dot < name → SelectInOrder dot (suc name) (select_step (Select-F.Member dot name))
  pub index : (opening : ℕ) (index : Meaning) (closing : ℕ) → opening < closing → InOrder (suc opening) closing index → SelectInOrder opening (suc closing) (select_step (Select-F.Index opening index closing))
  pub decimal : (at : ℕ) → InOrder at (suc at) (expr_step (Expr-F.«Expr::Decimal» at))
  pub based : (at : ℕ) → InOrder at (suc at) (expr_step (Expr-F.Based at))
  pub sized : (size at : ℕ) → size < at → InOrder size (suc at) (expr_step (Expr-F.Sized size at))
  pub fill : (at : ℕ) → InOrder at (suc at) (expr_step (Expr-F.Fill at))
