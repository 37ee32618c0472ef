-- The tokens of trees in the order of the text: those at which rules can be broken, and those that part what stands before them
-- from what stands behind. They ascend in a part of a text where each stands behind the one before it.
use Rattle.std.specs.Prelude.{ℕ, List, [], ◌∷◌, ◌++◌, Option, Some, None, map}
use Rattle.std.specs.Option.{option_map}
use Rattle.sv_tree.specs.declared.declarations.Declarator.{Declarator}
use Rattle.sv_tree.specs.declared.declarations.Initializer.{Initializer}
use Rattle.sv_tree.specs.declared.declarations.ParameterBody.{ParameterBody}
use Rattle.sv_tree.specs.declared.declarations.ParameterBody.TheVariants as P
use Rattle.sv_tree.specs.declared.expressions.Cast.{Cast, Cast-F, fold-Cast}
use Rattle.sv_tree.specs.declared.expressions.Dimension.{Dimension, Dimension-F, fold-Dimension}
use Rattle.sv_tree.specs.declared.expressions.Expr.{Expr, Expr-F, fold-Expr}
use Rattle.sv_tree.specs.declared.expressions.Pattern.{Pattern, Pattern-F, fold-Pattern}
use Rattle.sv_tree.specs.declared.expressions.PatternItem.{PatternItem, PatternItem-F, fold-PatternItem}
use Rattle.sv_tree.specs.declared.expressions.Select.{Select, Select-F, fold-Select}
use Rattle.sv_tree.specs.declared.expressions.SliceSize.{SliceSize, SliceSize-F, fold-SliceSize}
use Rattle.sv_tree.specs.declared.expressions.ValueRange.{ValueRange, ValueRange-F, fold-ValueRange}
use Rattle.sv_tree.specs.declared.functions.Formal as G
use Rattle.sv_tree.specs.declared.functions.FunctionResult.{FunctionResult}
use Rattle.sv_tree.specs.declared.functions.FunctionResult.TheVariants as R
use Rattle.sv_tree.specs.declared.names.PackageScope.{PackageScope}
use Rattle.sv_tree.specs.declared.names.QualifiedName.{QualifiedName}
use Rattle.sv_tree.specs.declared.ports.PortText.{PortText}
use Rattle.sv_tree.specs.declared.ports.PortText.TheVariants as T
use Rattle.sv_tree.specs.declared.statements.BlockItem.{BlockItem, BlockItem-F, fold-BlockItem}
use Rattle.sv_tree.specs.declared.statements.CaseItem.{CaseItem, CaseItem-F, fold-CaseItem}
use Rattle.sv_tree.specs.declared.statements.Else.{Else, Else-F, fold-Else}
use Rattle.sv_tree.specs.declared.statements.LoopStart.{LoopStart}
use Rattle.sv_tree.specs.declared.statements.LoopStep.{LoopStep}
use Rattle.sv_tree.specs.declared.statements.LoopStep.TheVariants as L
use Rattle.sv_tree.specs.declared.statements.Lvalue.{Lvalue, Lvalue-F, fold-Lvalue}
use Rattle.sv_tree.specs.declared.statements.Stmt.{Stmt, Stmt-F, fold-Stmt}
use Rattle.sv_tree.specs.declared.types.DimensionedName.{DimensionedName}
use Rattle.sv_tree.specs.declared.types.EnumBase.{EnumBase}
use Rattle.sv_tree.specs.declared.types.EnumBase.TheVariants as B
use Rattle.sv_tree.specs.declared.types.EnumName.{EnumName}
use Rattle.sv_tree.specs.declared.types.Member.{Member, Member-F, fold-Member}
use Rattle.sv_tree.specs.declared.types.TypeText.{TypeText, TypeText-F, fold-TypeText}
use Rattle.sv_tree.specs.Extents.{signing_token}
use Rattle.expr_type.specs.Names.{RoutineText, OfFunction, OfTask}
use Rattle.expr_type.specs.Functions.{formals_of}

abbrev pub Tokens : Type 0
Tokens = List ℕ

-- those of all parts, one behind another, and of a part that may be left out
abbrev pub in_row : List Tokens → Tokens
in_row [] = []
in_row (p ∷ ps) = p ++ in_row ps

abbrev pub if_there : Option Tokens → Tokens
if_there None = []
if_there (Some p) = p

-- names
abbrev pub scope_tokens : Option PackageScope → Tokens
scope_tokens None = []
scope_tokens (Some s) = s.package ∷ []

abbrev pub name_tokens : QualifiedName → Tokens
name_tokens q = scope_tokens q.scope ++ (q.name ∷ [])

-- expressions
abbrev pub cast_step : Cast-F Tokens Tokens Tokens Tokens Tokens Tokens Tokens Tokens → Tokens
cast_step (Cast-F.«Cast::Value» tick opening value closing) = tick ∷ value
cast_step (Cast-F.«Cast::Pattern» tick opening pattern closing) = tick ∷ pattern

abbrev pub dimension_step : Dimension-F Tokens Tokens Tokens Tokens Tokens Tokens Tokens Tokens → Tokens
dimension_step (Dimension-F.Size opening size closing) = opening ∷ size
dimension_step (Dimension-F.«Dimension::Range» opening left colon right closing) = opening ∷ (left ++ right)

abbrev pub expr_step : Expr-F Tokens Tokens Tokens Tokens Tokens Tokens Tokens Tokens → Tokens
expr_step (Expr-F.Conditional test question first colon second) = test ++ (question ∷ (first ++ (colon ∷ second)))
expr_step (Expr-F.Binary left operator at right) = left ++ (at ∷ right)
expr_step (Expr-F.Inside sought keyword opening ranges closing) = sought ++ (keyword ∷ in_row ranges)
expr_step (Expr-F.Unary operator at operand) = at ∷ operand
expr_step (Expr-F.«Expr::Decimal» digits) = digits ∷ []
expr_step (Expr-F.Sized size digits) = size ∷ digits ∷ []
expr_step (Expr-F.SizeCast size cast) = size ∷ cast
expr_step (Expr-F.Based digits) = digits ∷ []
expr_step (Expr-F.Fill digit) = digit ∷ []
expr_step (Expr-F.«Expr::Parenthesized» opening inner closing cast) = opening ∷ (inner ++ (closing ∷ if_there cast))
expr_step (Expr-F.«Expr::Replication» opening times inner_opening items inner_closing closing) =
    opening ∷ (times ++ (inner_opening ∷ (in_row items ++ (inner_closing ∷ closing ∷ []))))
expr_step (Expr-F.Concatenation opening items closing) = opening ∷ (in_row items ++ (closing ∷ []))
expr_step (Expr-F.Stream opening operator at size inner_opening items inner_closing closing) = opening ∷ (if_there size ++ in_row items)
expr_step (Expr-F.«Expr::Pattern» tick opening pattern closing) = tick ∷ pattern
expr_step (Expr-F.Type of packed cast) = of.at ∷ (in_row packed ++ if_there cast)
expr_step (Expr-F.SigningCast signing cast) = signing_token signing ∷ cast
expr_step (Expr-F.SystemCall name opening argument closing) = name ∷ argument
expr_step (Expr-F.Call of opening arguments closing cast) = name_tokens of ++ (opening ∷ (in_row arguments ++ (closing ∷ if_there cast)))
expr_step (Expr-F.«Expr::Name» of selects cast) = name_tokens of ++ (in_row selects ++ if_there cast)

abbrev pub pattern_step : Pattern-F Tokens Tokens Tokens Tokens Tokens Tokens Tokens Tokens → Tokens
pattern_step (Pattern-F.Items items) = in_row items
pattern_step (Pattern-F.«Pattern::Replication» times opening items closing) = times ++ in_row items

abbrev pub pattern_item_step : PatternItem-F Tokens Tokens Tokens Tokens Tokens Tokens Tokens Tokens → Tokens
pattern_item_step (PatternItem-F.Default keyword colon item) = item
pattern_item_step (PatternItem-F.Keyed key colon item) = key ++ item
pattern_item_step (PatternItem-F.«PatternItem::Value» item) = item

abbrev pub select_step : Select-F Tokens Tokens Tokens Tokens Tokens Tokens Tokens Tokens → Tokens
select_step (Select-F.Member dot name) = dot ∷ name ∷ []
select_step (Select-F.Index opening index closing) = opening ∷ (index ++ (closing ∷ []))
select_step (Select-F.Part opening left operator at right closing) = opening ∷ (left ++ (at ∷ right))

abbrev pub slice_step : SliceSize-F Tokens Tokens Tokens Tokens Tokens Tokens Tokens Tokens → Tokens
slice_step (SliceSize-F.«SliceSize::Decimal» digits) = digits ∷ []
slice_step (SliceSize-F.Keyword of) = of.at ∷ []
slice_step (SliceSize-F.«SliceSize::Name» of) = name_tokens of
slice_step (SliceSize-F.«SliceSize::Parenthesized» opening size closing) = size

abbrev pub range_step : ValueRange-F Tokens Tokens Tokens Tokens Tokens Tokens Tokens Tokens → Tokens
range_step (ValueRange-F.«ValueRange::Value» v) = v
range_step (ValueRange-F.«ValueRange::Range» opening low colon high closing) = low ++ high

abbrev pub cast_tokens : Cast → Tokens
cast_tokens = fold-Cast Tokens Tokens Tokens Tokens Tokens Tokens Tokens Tokens cast_step dimension_step expr_step pattern_step pattern_item_step select_step slice_step range_step

abbrev pub dimension_tokens : Dimension → Tokens
dimension_tokens = fold-Dimension Tokens Tokens Tokens Tokens Tokens Tokens Tokens Tokens cast_step dimension_step expr_step pattern_step pattern_item_step select_step slice_step range_step

abbrev pub expr_tokens : Expr → Tokens
expr_tokens = fold-Expr Tokens Tokens Tokens Tokens Tokens Tokens Tokens Tokens cast_step dimension_step expr_step pattern_step pattern_item_step select_step slice_step range_step

abbrev pub pattern_tokens : Pattern → Tokens
pattern_tokens = fold-Pattern Tokens Tokens Tokens Tokens Tokens Tokens Tokens Tokens cast_step dimension_step expr_step pattern_step pattern_item_step select_step slice_step range_step

abbrev pub pattern_item_tokens : PatternItem → Tokens
pattern_item_tokens = fold-PatternItem Tokens Tokens Tokens Tokens Tokens Tokens Tokens Tokens cast_step dimension_step expr_step pattern_step pattern_item_step select_step slice_step range_step

abbrev pub select_tokens : Select → Tokens
select_tokens = fold-Select Tokens Tokens Tokens Tokens Tokens Tokens Tokens Tokens cast_step dimension_step expr_step pattern_step pattern_item_step select_step slice_step range_step

abbrev pub slice_tokens : SliceSize → Tokens
slice_tokens = fold-SliceSize Tokens Tokens Tokens Tokens Tokens Tokens Tokens Tokens cast_step dimension_step expr_step pattern_step pattern_item_step select_step slice_step range_step

abbrev pub range_tokens : ValueRange → Tokens
range_tokens = fold-ValueRange Tokens Tokens Tokens Tokens Tokens Tokens Tokens Tokens cast_step dimension_step expr_step pattern_step pattern_item_step select_step slice_step range_step

abbrev pub dims_tokens : List Dimension → Tokens
dims_tokens ds = in_row (map dimension_tokens ds)

abbrev pub selects_tokens : List Select → Tokens
selects_tokens ss = in_row (map select_tokens ss)

abbrev pub exprs_tokens : List Expr → Tokens
exprs_tokens es = in_row (map expr_tokens es)

abbrev pub initial_tokens : Option Initializer → Tokens
initial_tokens None = []
initial_tokens (Some i) = expr_tokens i.value

-- types
abbrev pub base_tokens : Option EnumBase → Tokens
base_tokens None = []
base_tokens (Some (B.Keyword of ds)) = dims_tokens ds
base_tokens (Some (B.Named of ds)) = name_tokens of ++ dims_tokens ds

abbrev pub enum_name_tokens : EnumName → Tokens
enum_name_tokens n = n.name ∷ initial_tokens n.value

abbrev pub enum_names_tokens : List EnumName → Tokens
enum_names_tokens ns = in_row (map enum_name_tokens ns)

abbrev pub field_tokens : DimensionedName → Tokens
field_tokens n = n.name ∷ dims_tokens n.unpacked

abbrev pub fields_tokens : List DimensionedName → Tokens
fields_tokens ns = in_row (map field_tokens ns)

abbrev pub member_step : Member-F Tokens Tokens → Tokens
member_step m = m.of ++ fields_tokens m.names

abbrev pub type_step : TypeText-F Tokens Tokens → Tokens
type_step (TypeText-F.Keyword of ds) = dims_tokens ds
type_step (TypeText-F.Structure of packing opening members closing ds) = in_row members ++ dims_tokens ds
type_step (TypeText-F.Enumeration keyword base opening names closing ds) = base_tokens base ++ (enum_names_tokens names ++ dims_tokens ds)
type_step (TypeText-F.Named of ds) = name_tokens of ++ dims_tokens ds
type_step (TypeText-F.Implicit signing ds) = dims_tokens ds

abbrev pub type_tokens : TypeText → Tokens
type_tokens = fold-TypeText Tokens Tokens type_step member_step

abbrev pub member_tokens : Member → Tokens
member_tokens = fold-Member Tokens Tokens type_step member_step

-- declarations
abbrev pub declarator_tokens : Declarator → Tokens
declarator_tokens d = d.name ∷ (dims_tokens d.unpacked ++ initial_tokens d.initial)

abbrev pub declarators_tokens : List Declarator → Tokens
declarators_tokens ds = in_row (map declarator_tokens ds)

abbrev pub parameter_tokens : ParameterBody → Tokens
parameter_tokens (P.Type keyword name initial) = name ∷ initial_tokens initial
parameter_tokens (P.Value of d) = type_tokens of ++ declarator_tokens d

abbrev pub parameters_tokens : List ParameterBody → Tokens
parameters_tokens bs = in_row (map parameter_tokens bs)

-- targets
abbrev pub lvalue_step : Lvalue-F Tokens → Tokens
lvalue_step (Lvalue-F.Name name selects) = name ∷ selects_tokens selects
lvalue_step (Lvalue-F.Concatenation opening targets closing) = opening ∷ in_row targets
lvalue_step (Lvalue-F.Stream opening operator at size inner_opening targets inner_closing closing) =
    opening ∷ (if_there (option_map slice_tokens size) ++ in_row targets)

abbrev pub lvalue_tokens : Lvalue → Tokens
lvalue_tokens = fold-Lvalue Tokens lvalue_step

-- parts of statements
abbrev pub start_tokens : LoopStart → Tokens
start_tokens l = type_tokens l.of ++ (l.name ∷ expr_tokens l.value)

abbrev pub loop_step_tokens : LoopStep → Tokens
loop_step_tokens (L.Assign name op at e) = name ∷ at ∷ expr_tokens e
loop_step_tokens (L.Postfix name op at) = name ∷ at ∷ []
loop_step_tokens (L.Prefix op at name) = at ∷ name ∷ []

-- statements
abbrev pub item_step : BlockItem-F Tokens Tokens Tokens Tokens → Tokens
item_step (BlockItem-F.Statement s) = s
item_step (BlockItem-F.Parameters p) = parameters_tokens p.bodies
item_step (BlockItem-F.Variables automatic «var» of ds semicolon) = type_tokens of ++ declarators_tokens ds
item_step (BlockItem-F.NamedVariables of ss ds semicolon) = of ∷ (selects_tokens ss ++ declarators_tokens ds)

abbrev pub case_step : CaseItem-F Tokens Tokens Tokens Tokens → Tokens
case_step (CaseItem-F.Values es colon body) = exprs_tokens es ++ body
case_step (CaseItem-F.Default keyword colon body) = body

abbrev pub else_step : Else-F Tokens Tokens Tokens Tokens → Tokens
else_step e = e.body

abbrev pub stmt_step : Stmt-F Tokens Tokens Tokens Tokens → Tokens
stmt_step (Stmt-F.Block begin label items end end_label) = in_row items
stmt_step (Stmt-F.If promise keyword opening test closing body other) = expr_tokens test ++ (body ++ if_there other)
stmt_step (Stmt-F.Case promise keyword opening sought closing items end) = expr_tokens sought ++ in_row items
stmt_step (Stmt-F.For keyword opening first first_semicolon test test_semicolon step closing body) =
    start_tokens first ++ (expr_tokens test ++ (loop_step_tokens step ++ body))
stmt_step (Stmt-F.Break keyword semicolon) = []
stmt_step (Stmt-F.Continue keyword semicolon) = []
stmt_step (Stmt-F.Return keyword e semicolon) = if_there (option_map expr_tokens e)
stmt_step (Stmt-F.Call of opening arguments closing semicolon) = name_tokens of ++ exprs_tokens arguments
stmt_step (Stmt-F.Assign to op at e semicolon) = lvalue_tokens to ++ (at ∷ expr_tokens e)
stmt_step (Stmt-F.Postfix name ss op at semicolon) = name ∷ (selects_tokens ss ++ (at ∷ []))
stmt_step (Stmt-F.Prefix op at name ss semicolon) = at ∷ name ∷ selects_tokens ss
stmt_step (Stmt-F.Empty semicolon) = []

abbrev pub stmt_tokens : Stmt → Tokens
stmt_tokens = fold-Stmt Tokens Tokens Tokens Tokens item_step case_step stmt_step else_step

abbrev pub block_item_tokens : BlockItem → Tokens
block_item_tokens = fold-BlockItem Tokens Tokens Tokens Tokens item_step case_step stmt_step else_step

abbrev pub case_item_tokens : CaseItem → Tokens
case_item_tokens = fold-CaseItem Tokens Tokens Tokens Tokens item_step case_step stmt_step else_step

abbrev pub else_tokens : Else → Tokens
else_tokens = fold-Else Tokens Tokens Tokens Tokens item_step case_step stmt_step else_step

abbrev pub items_tokens : List BlockItem → Tokens
items_tokens is = in_row (map block_item_tokens is)

-- functions and tasks
abbrev pub port_tokens : PortText → Tokens
port_tokens (T.Typed of name ds) = type_tokens of ++ (name ∷ dims_tokens ds)
port_tokens (T.Bare name ds) = name ∷ dims_tokens ds
port_tokens (T.Modport of dot modport name) = []

abbrev pub formal_tokens : G.Formal → Tokens
formal_tokens f = port_tokens f.text

abbrev pub formals_tokens : List G.Formal → Tokens
formals_tokens fs = in_row (map formal_tokens fs)

abbrev pub result_tokens : FunctionResult → Tokens
result_tokens (R.Void keyword) = []
result_tokens (R.Value of) = type_tokens of

abbrev pub routine_tokens : RoutineText → Tokens
routine_tokens (OfFunction f) = result_tokens f.of ++ (f.name ∷ (dims_tokens f.unpacked ++ (formals_tokens (formals_of f.formals) ++ items_tokens f.items)))
routine_tokens (OfTask t) = t.name ∷ (formals_tokens (formals_of t.formals) ++ items_tokens t.items)
