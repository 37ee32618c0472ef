-- The first and the last token of the parts of a source text.
use Rattle.std.specs.Prelude.{ℕ, List, [], ◌∷◌, map, Option, Some, None}
use Rattle.sv_tree.specs.declared.declarations.Declarator.{Declarator}
use Rattle.sv_tree.specs.declared.declarations.ParameterKeyword.{ParameterKeyword}
use Rattle.sv_tree.specs.declared.declarations.ParameterKeyword.TheVariants.{Parameter, Localparam}
use Rattle.sv_tree.specs.declared.expressions.Cast.{Cast, Cast-F, fold-Cast}
use Rattle.sv_tree.specs.declared.expressions.Dimension.{Dimension, Dimension-F, fold-Dimension, out-Dimension}
use Rattle.sv_tree.specs.declared.expressions.Expr.{Expr, Expr-F, fold-Expr}
use Rattle.sv_tree.specs.declared.expressions.Pattern.{Pattern, Pattern-F}
use Rattle.sv_tree.specs.declared.expressions.PatternItem.{PatternItem, PatternItem-F}
use Rattle.sv_tree.specs.declared.expressions.Select.{Select, Select-F, fold-Select}
use Rattle.sv_tree.specs.declared.expressions.SliceSize.{SliceSize, SliceSize-F}
use Rattle.sv_tree.specs.declared.expressions.ValueRange.{ValueRange, ValueRange-F}
use Rattle.sv_tree.specs.declared.items.CaseGenerateItem.{CaseGenerateItem-F}
use Rattle.sv_tree.specs.declared.items.DataDeclaration.{DataDeclaration}
use Rattle.sv_tree.specs.declared.items.GenerateBlock.{GenerateBlock, GenerateBlock-F, fold-GenerateBlock}
use Rattle.sv_tree.specs.declared.items.GenerateElse.{GenerateElse-F}
use Rattle.sv_tree.specs.declared.items.Item.{Item, Item-F, fold-Item}
use Rattle.sv_tree.specs.declared.names.Label.{Label}
use Rattle.sv_tree.specs.declared.names.NetOrVariable.{NetOrVariable}
use Rattle.sv_tree.specs.declared.names.NetOrVariable.TheVariants.{Wire, Var}
use Rattle.sv_tree.specs.declared.names.PackageScope.{PackageScope}
use Rattle.sv_tree.specs.declared.names.QualifiedName.{QualifiedName}
use Rattle.sv_tree.specs.declared.names.Signing.{Signing}
use Rattle.sv_tree.specs.declared.names.Signing.TheVariants.{Signed, Unsigned}
use Rattle.sv_tree.specs.declared.processes.Always.{Always}
use Rattle.sv_tree.specs.declared.processes.Always.TheVariants as Kinds
use Rattle.sv_tree.specs.declared.statements.BlockItem.{BlockItem-F}
use Rattle.sv_tree.specs.declared.statements.CaseItem.{CaseItem-F}
use Rattle.sv_tree.specs.declared.statements.CaseKeyword.{CaseKeyword}
use Rattle.sv_tree.specs.declared.statements.CaseKeyword.TheVariants.{Case, Casez, Casex}
use Rattle.sv_tree.specs.declared.statements.Else.{Else-F}
use Rattle.sv_tree.specs.declared.statements.Lvalue.{Lvalue, Lvalue-F, out-Lvalue}
use Rattle.sv_tree.specs.declared.statements.Stmt.{Stmt, Stmt-F, fold-Stmt}
use Rattle.sv_tree.specs.declared.statements.UniquePriority.{UniquePriority}
use Rattle.sv_tree.specs.declared.statements.UniquePriority.TheVariants.{Unique, Unique0, Priority}
use Rattle.sv_tree.specs.declared.types.Aggregate.{Aggregate}
use Rattle.sv_tree.specs.declared.types.Aggregate.TheVariants.{Struct, Union}
use Rattle.sv_tree.specs.declared.types.KeywordType.{KeywordType}
use Rattle.sv_tree.specs.declared.types.Member.{Member}
use Rattle.sv_tree.specs.declared.types.TypeText.{TypeText, TypeText-F, out-TypeText}

pub record Extent : Type 0 where
  pub first : ℕ
  pub last : ℕ

abbrev pub from_to : ℕ → ℕ → Extent
from_to first last = record { first = first; last = last }

-- the last of the numbers, or the one before them
abbrev pub last_of : ℕ → List ℕ → ℕ
last_of before [] = before
last_of before (x ∷ xs) = last_of x xs

abbrev pub value_or : ℕ → Option ℕ → ℕ
value_or other None = other
value_or other (Some x) = x

-- the words that say their token
abbrev pub signing_token : Signing → ℕ
signing_token (Signed at) = at
signing_token (Unsigned at) = at

abbrev pub parameter_token : ParameterKeyword → ℕ
parameter_token (Parameter at) = at
parameter_token (Localparam at) = at

abbrev pub net_token : NetOrVariable → ℕ
net_token (Wire at) = at
net_token (Var at) = at

abbrev pub promise_token : UniquePriority → ℕ
promise_token (Unique at) = at
promise_token (Unique0 at) = at
promise_token (Priority at) = at

abbrev pub case_token : CaseKeyword → ℕ
case_token (Case at) = at
case_token (Casez at) = at
case_token (Casex at) = at

abbrev pub aggregate_token : Aggregate → ℕ
aggregate_token (Struct at) = at
aggregate_token (Union at) = at

-- `package::name`, or a name alone, begins with the package
abbrev pub scoped_first : Option PackageScope → ℕ → ℕ
scoped_first None name = name
scoped_first (Some scope) name = scope.package

abbrev pub qualified_first : QualifiedName → ℕ
qualified_first q = scoped_first q.scope q.name

-- a sign ends a type's word
abbrev pub signed_last : ℕ → Option Signing → ℕ
signed_last at None = at
signed_last at (Some s) = signing_token s

abbrev pub keyword_last : KeywordType → ℕ
keyword_last k = signed_last k.at k.signing

-- a label ends what it stands behind
abbrev pub labelled : ℕ → Option Label → ℕ
labelled end None = end
labelled end (Some l) = l.name

-- Expressions and their parts. For all parts but expressions the number is the last token; of some parts none is asked for.
abbrev pub cast_end : Cast-F ℕ ℕ Extent ℕ ℕ ℕ ℕ ℕ → ℕ
cast_end (Cast-F.«Cast::Value» tick opening value closing) = closing
cast_end (Cast-F.«Cast::Pattern» tick opening pattern closing) = closing

abbrev pub dimension_end : Dimension-F ℕ ℕ Extent ℕ ℕ ℕ ℕ ℕ → ℕ
dimension_end (Dimension-F.Size opening size closing) = closing
dimension_end (Dimension-F.«Dimension::Range» opening left colon right closing) = closing

abbrev pub select_end : Select-F ℕ ℕ Extent ℕ ℕ ℕ ℕ ℕ → ℕ
select_end (Select-F.Member dot name) = name
select_end (Select-F.Index opening index closing) = closing
select_end (Select-F.Part opening left operator at right closing) = closing

abbrev pub expr_extent : Expr-F ℕ ℕ Extent ℕ ℕ ℕ ℕ ℕ → Extent
expr_extent (Expr-F.Conditional test question first colon second) = from_to test.first second.last
expr_extent (Expr-F.Binary left operator at right) = from_to left.first right.last
expr_extent (Expr-F.Inside value keyword opening ranges closing) = from_to value.first closing
expr_extent (Expr-F.Unary operator at operand) = from_to at operand.last
expr_extent (Expr-F.«Expr::Decimal» digits) = from_to digits digits
expr_extent (Expr-F.Sized size digits) = from_to size digits
expr_extent (Expr-F.SizeCast size cast) = from_to size cast
expr_extent (Expr-F.Based digits) = from_to digits digits
expr_extent (Expr-F.Fill digit) = from_to digit digit
expr_extent (Expr-F.«Expr::Parenthesized» opening value closing cast) = from_to opening (value_or closing cast)
expr_extent (Expr-F.«Expr::Replication» opening count inner_opening items inner_closing closing) = from_to opening closing
expr_extent (Expr-F.Concatenation opening items closing) = from_to opening closing
expr_extent (Expr-F.Stream opening operator at size inner_opening items inner_closing closing) = from_to opening closing
expr_extent (Expr-F.«Expr::Pattern» tick opening pattern closing) = from_to tick closing
expr_extent (Expr-F.Type of packed cast) = from_to of.at (value_or (last_of (keyword_last of) packed) cast)
expr_extent (Expr-F.SigningCast signing cast) = from_to (signing_token signing) cast
expr_extent (Expr-F.SystemCall name opening argument closing) = from_to name closing
expr_extent (Expr-F.Call of opening arguments closing cast) = from_to (qualified_first of) (value_or closing cast)
expr_extent (Expr-F.«Expr::Name» of selects cast) = from_to (qualified_first of) (value_or (last_of of.name selects) cast)

abbrev pub pattern_end : Pattern-F ℕ ℕ Extent ℕ ℕ ℕ ℕ ℕ → ℕ
pattern_end p = 0

abbrev pub pattern_item_end : PatternItem-F ℕ ℕ Extent ℕ ℕ ℕ ℕ ℕ → ℕ
pattern_item_end p = 0

abbrev pub slice_size_end : SliceSize-F ℕ ℕ Extent ℕ ℕ ℕ ℕ ℕ → ℕ
slice_size_end p = 0

abbrev pub value_range_end : ValueRange-F ℕ ℕ Extent ℕ ℕ ℕ ℕ ℕ → ℕ
value_range_end p = 0

abbrev pub extent_of_expr : Expr → Extent
extent_of_expr = fold-Expr ℕ ℕ Extent ℕ ℕ ℕ ℕ ℕ cast_end dimension_end expr_extent pattern_end pattern_item_end select_end slice_size_end value_range_end

abbrev pub last_of_cast : Cast → ℕ
last_of_cast = fold-Cast ℕ ℕ Extent ℕ ℕ ℕ ℕ ℕ cast_end dimension_end expr_extent pattern_end pattern_item_end select_end slice_size_end value_range_end

abbrev pub last_of_dimension : Dimension → ℕ
last_of_dimension = fold-Dimension ℕ ℕ Extent ℕ ℕ ℕ ℕ ℕ cast_end dimension_end expr_extent pattern_end pattern_item_end select_end slice_size_end value_range_end

abbrev pub dimension_start : Dimension-F Cast Dimension Expr Pattern PatternItem Select SliceSize ValueRange → ℕ
dimension_start (Dimension-F.Size opening size closing) = opening
dimension_start (Dimension-F.«Dimension::Range» opening left colon right closing) = opening

abbrev pub first_of_dimension : Dimension → ℕ
first_of_dimension d = dimension_start (out-Dimension d)

abbrev pub last_of_select : Select → ℕ
last_of_select = fold-Select ℕ ℕ Extent ℕ ℕ ℕ ℕ ℕ cast_end dimension_end expr_extent pattern_end pattern_item_end select_end slice_size_end value_range_end

-- types, which may have no token
abbrev pub implicit_first : Option Signing → List Dimension → Option ℕ
implicit_first (Some s) dimensions = Some (signing_token s)
implicit_first None [] = None
implicit_first None (d ∷ ds) = Some (first_of_dimension d)

abbrev pub type_first : TypeText-F TypeText Member → Option ℕ
type_first (TypeText-F.Keyword of packed) = Some of.at
type_first (TypeText-F.Structure aggregate packing opening members closing packed) = Some (aggregate_token aggregate)
type_first (TypeText-F.Enumeration keyword base opening names closing packed) = Some keyword
type_first (TypeText-F.Named of packed) = Some (qualified_first of)
type_first (TypeText-F.Implicit signing packed) = implicit_first signing packed

abbrev pub first_of_type : TypeText → Option ℕ
first_of_type t = type_first (out-TypeText t)

abbrev pub lasts : List Dimension → List ℕ
lasts ds = map last_of_dimension ds

abbrev pub implicit_last : Option Signing → List Dimension → Option ℕ
implicit_last (Some s) ds = Some (last_of (signing_token s) (lasts ds))
implicit_last None [] = None
implicit_last None (d ∷ ds) = Some (last_of (last_of_dimension d) (lasts ds))

abbrev pub type_last : TypeText-F TypeText Member → Option ℕ
type_last (TypeText-F.Keyword of packed) = Some (last_of (keyword_last of) (lasts packed))
type_last (TypeText-F.Structure aggregate packing opening members closing packed) = Some (last_of closing (lasts packed))
type_last (TypeText-F.Enumeration keyword base opening names closing packed) = Some (last_of closing (lasts packed))
type_last (TypeText-F.Named of packed) = Some (last_of of.name (lasts packed))
type_last (TypeText-F.Implicit signing packed) = implicit_last signing packed

abbrev pub last_of_type : TypeText → Option ℕ
last_of_type t = type_last (out-TypeText t)

-- what is assigned
abbrev pub lvalue_first : Lvalue-F Lvalue → ℕ
lvalue_first (Lvalue-F.Name name selects) = name
lvalue_first (Lvalue-F.Concatenation opening targets closing) = opening
lvalue_first (Lvalue-F.Stream opening operator at size inner_opening targets inner_closing closing) = opening

abbrev pub first_of_lvalue : Lvalue → ℕ
first_of_lvalue l = lvalue_first (out-Lvalue l)

-- statements; for their parts the number is the last token, and of some none is asked for
abbrev pub promised : Option UniquePriority → ℕ → ℕ
promised None at = at
promised (Some p) at = promise_token p

abbrev pub block_item_end : BlockItem-F ℕ ℕ Extent ℕ → ℕ
block_item_end i = 0

abbrev pub case_item_end : CaseItem-F ℕ ℕ Extent ℕ → ℕ
case_item_end i = 0

abbrev pub else_end : Else-F ℕ ℕ Extent ℕ → ℕ
else_end e = e.body.last

abbrev pub stmt_extent : Stmt-F ℕ ℕ Extent ℕ → Extent
stmt_extent (Stmt-F.Block begin label items end end_label) = from_to begin (labelled end end_label)
stmt_extent (Stmt-F.If promise keyword opening test closing body other) = from_to (promised promise keyword) (value_or body.last other)
stmt_extent (Stmt-F.Case promise keyword opening value closing items end) = from_to (promised promise (case_token keyword)) end
stmt_extent (Stmt-F.For keyword opening first first_semicolon test test_semicolon step closing body) = from_to keyword body.last
stmt_extent (Stmt-F.Break keyword semicolon) = from_to keyword semicolon
stmt_extent (Stmt-F.Continue keyword semicolon) = from_to keyword semicolon
stmt_extent (Stmt-F.Return keyword value semicolon) = from_to keyword semicolon
stmt_extent (Stmt-F.Call of opening arguments closing semicolon) = from_to (qualified_first of) semicolon
stmt_extent (Stmt-F.Assign target operator at value semicolon) = from_to (first_of_lvalue target) semicolon
stmt_extent (Stmt-F.Postfix name selects operator at semicolon) = from_to name semicolon
stmt_extent (Stmt-F.Prefix operator at name selects semicolon) = from_to at semicolon
stmt_extent (Stmt-F.Empty semicolon) = from_to semicolon semicolon

abbrev pub extent_of_stmt : Stmt → Extent
extent_of_stmt = fold-Stmt ℕ ℕ Extent ℕ block_item_end case_item_end stmt_extent else_end

-- processes
abbrev pub extent_of_always : Always → Extent
extent_of_always (Kinds.Comb keyword body) = from_to keyword (extent_of_stmt body).last
extent_of_always (Kinds.Latch keyword body) = from_to keyword (extent_of_stmt body).last
extent_of_always (Kinds.Ff keyword event opening edges closing body) = from_to keyword (extent_of_stmt body).last
extent_of_always (Kinds.Plain keyword event control body) = from_to keyword (extent_of_stmt body).last

-- declarations: `wire` or `var`, the type or the first name
abbrev pub name_first : List Declarator → ℕ
name_first [] = 0
name_first (d ∷ ds) = d.name

abbrev pub net_first : Option NetOrVariable → ℕ → ℕ
net_first None at = at
net_first (Some n) at = net_token n

abbrev pub first_of_data : DataDeclaration → ℕ
first_of_data d = net_first d.net (value_or (name_first d.declarators) (first_of_type d.of))

-- items and generate blocks
abbrev pub case_generate_item_end : CaseGenerateItem-F ℕ Extent Extent ℕ → ℕ
case_generate_item_end i = 0

abbrev pub generate_else_end : GenerateElse-F ℕ Extent Extent ℕ → ℕ
generate_else_end e = e.body.last

abbrev pub generate_block_extent : GenerateBlock-F ℕ Extent Extent ℕ → Extent
generate_block_extent (GenerateBlock-F.Block begin label items end end_label) = from_to begin (labelled end end_label)
generate_block_extent (GenerateBlock-F.Single item) = item

abbrev pub item_extent : Item-F ℕ Extent Extent ℕ → Extent
item_extent (Item-F.Parameters p) = from_to (parameter_token p.keyword) p.semicolon
item_extent (Item-F.Typedef t) = from_to t.keyword t.semicolon
item_extent (Item-F.Import i) = from_to i.keyword i.semicolon
item_extent (Item-F.Function f) = from_to f.keyword (labelled f.end f.end_label)
item_extent (Item-F.Task t) = from_to t.keyword (labelled t.end t.end_label)
item_extent (Item-F.Data d) = from_to (first_of_data d) d.semicolon
item_extent (Item-F.Genvars g) = from_to g.keyword g.semicolon
item_extent (Item-F.Assign a) = from_to a.keyword a.semicolon
item_extent (Item-F.Always a) = extent_of_always a
item_extent (Item-F.Generate keyword items end) = from_to keyword end
item_extent (Item-F.LoopGenerate keyword opening control closing body) = from_to keyword body.last
item_extent (Item-F.IfGenerate keyword opening test closing body other) = from_to keyword (value_or body.last other)
item_extent (Item-F.CaseGenerate keyword opening value closing items end) = from_to keyword end
item_extent (Item-F.Modports m) = from_to m.keyword m.semicolon
item_extent (Item-F.Instances i) = from_to i.of i.semicolon
item_extent (Item-F.Empty semicolon) = from_to semicolon semicolon

abbrev pub extent_of_item : Item → Extent
extent_of_item = fold-Item ℕ Extent Extent ℕ case_generate_item_end generate_block_extent item_extent generate_else_end

abbrev pub extent_of_generate_block : GenerateBlock → Extent
extent_of_generate_block = fold-GenerateBlock ℕ Extent Extent ℕ case_generate_item_end generate_block_extent item_extent generate_else_end
