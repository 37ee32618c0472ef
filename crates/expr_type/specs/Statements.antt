-- Statements as they are typed (IEEE 1800-2017 clauses 9.3, 10.4, 11.4.1, 11.4.2, 12.4 to 12.8, 13.3 and 13.5).
use Rattle.std.specs.Prelude.{ℕ, Bool, true, false, ◌&&◌, ◌||◌, ◌==◌, nat_lt, not, cond, pos, List, [], ◌∷◌, ◌++◌, length, map, flat_map, Option, Some, None, Ok, Err}
use Rattle.std.specs.Option.{option_map}
use Rattle.b4_core.specs.declared.bit.Bit4.TheVariants.{One}
use Rattle.b4_core.specs.Vectors.{vec}
use Rattle.sv_tree.specs.declared.declarations.Declarator.{Declarator}
use Rattle.sv_tree.specs.declared.declarations.Initializer.{Initializer}
use Rattle.sv_tree.specs.declared.declarations.ParameterBody.{ParameterBody}
use Rattle.sv_tree.specs.declared.declarations.ParameterBody.TheVariants as P
use Rattle.sv_tree.specs.declared.expressions.Dimension.{Dimension}
use Rattle.sv_tree.specs.declared.expressions.Expr as X
use Rattle.sv_tree.specs.declared.expressions.Select.{Select}
use Rattle.sv_tree.specs.declared.operators.AssignmentOperator.{AssignmentOperator}
use Rattle.sv_tree.specs.declared.operators.AssignmentOperator.TheVariants as A
use Rattle.sv_tree.specs.declared.operators.BinaryOperator.{BinaryOperator}
use Rattle.sv_tree.specs.declared.operators.BinaryOperator.TheVariants as N
use Rattle.sv_tree.specs.declared.operators.StepOperator.{StepOperator}
use Rattle.sv_tree.specs.declared.operators.StepOperator.TheVariants as U
use Rattle.sv_tree.specs.declared.statements.BlockItem.{BlockItem, BlockItem-F, fold-BlockItem}
use Rattle.sv_tree.specs.declared.statements.CaseItem.{CaseItem-F}
use Rattle.sv_tree.specs.declared.statements.CaseKeyword.{CaseKeyword}
use Rattle.sv_tree.specs.declared.statements.CaseKeyword.TheVariants as K
use Rattle.sv_tree.specs.declared.statements.Else.{Else-F}
use Rattle.sv_tree.specs.declared.statements.LoopStep.{LoopStep}
use Rattle.sv_tree.specs.declared.statements.LoopStep.TheVariants as L
use Rattle.sv_tree.specs.declared.statements.Stmt.{Stmt, Stmt-F, fold-Stmt}
use Rattle.sv_tree.specs.declared.names.Signing.{Signing}
use Rattle.sv_tree.specs.declared.names.QualifiedName.{QualifiedName}
use Rattle.sv_tree.specs.declared.statements.LoopStart.{LoopStart}
use Rattle.sv_tree.specs.declared.statements.Lvalue.{Lvalue}
use Rattle.sv_tree.specs.declared.types.TypeText.{TypeText, TypeText-F, out-TypeText}
use Rattle.sv_types.specs.declared.expression.Expr.{Expr}
use Rattle.sv_types.specs.declared.expression.Form.TheVariants as F
use Rattle.sv_types.specs.declared.frame.ParamType.{ParamType}
use Rattle.sv_types.specs.declared.frame.ParamValue.{ParamValue}
use Rattle.sv_types.specs.declared.statement.CaseItem as T
use Rattle.sv_types.specs.declared.statement.CaseKind.{CaseKind}
use Rattle.sv_types.specs.declared.statement.CaseKind.TheVariants as Q
use Rattle.sv_types.specs.declared.statement.Formal.{Formal}
use Rattle.sv_types.specs.declared.statement.Function.{Function}
use Rattle.sv_types.specs.declared.statement.Local.{Local}
use Rattle.sv_types.specs.declared.statement.Stmt as R
use Rattle.sv_types.specs.declared.statement.Stmt.TheVariants as S
use Rattle.sv_types.specs.declared.statement.Way.{Way}
use Rattle.sv_types.specs.declared.statement.Way.TheVariants as W
use Rattle.sv_types.specs.declared.types.SvType.{SvType}
use Rattle.sv_types.specs.Layouts.{width_of}
use Rattle.sv_types.specs.Meanings.{most}
use Rattle.expr_type.specs.Breaks.{At, Quiet}
use Rattle.expr_type.specs.Typings.{Checked, Typing, whole, broken, rule, by_functions, checked, both, both_by, all, all_of, joined, looked_at, tried, where_whole, refused, unless, at_all}
use Rattle.expr_type.specs.Shapes.{one_bit, vector, sign_of, is_assignable, is_plain_to_enum}
use Rattle.expr_type.specs.Names.{Called, Context, LocalId, position, spot, with_values, with_types, with_locals, local_id}
use Rattle.expr_type.specs.declared.operand.Valued.{Valued}
use Rattle.expr_type.specs.Operands.{is_constant_value, constant_alone, constant_of, first_of, Operand, Plain, Pattern, Stream, given, no_stream, passed, unstreamed, is_value, bits_in, sized, too_wide, width, value_by}
use Rattle.expr_type.specs.Operators.{by_itself, expr_at, exprs, binary_of, not_too_long}
use Rattle.expr_type.specs.Forms.{cast_expr, finds_count, is_signed_by, needed, with_other_count}
use Rattle.expr_type.specs.Expressions as E
use Rattle.expr_type.specs.Expressions.{Meaning, meaning, operand, select_meaning}
use Rattle.expr_type.specs.Types.{TypeFound, dims, typed_text, declared_type}
use Rattle.expr_type.specs.KeywordTypes.{unpacked, implicit_type}
use Rattle.expr_type.specs.TargetNames.{named_target}
use Rattle.expr_type.specs.Targets.{Target, has_enum_part, ToPath, ToParts, ToStream, target, parts_of, assigned, simple_name}

-- Assignments. `a op= b` is `a = a op b`.
abbrev pub operator_of : AssignmentOperator → Option BinaryOperator
operator_of A.Assign = None
operator_of A.Nonblocking = None
operator_of A.Add = Some N.Add
operator_of A.Subtract = Some N.Subtract
operator_of A.Multiply = Some N.Multiply
operator_of A.Divide = Some N.Divide
operator_of A.Remainder = Some N.Remainder
operator_of A.And = Some N.And
operator_of A.Or = Some N.Or
operator_of A.Xor = Some N.Xor
operator_of A.ShiftLeft = Some N.ShiftLeft
operator_of A.ShiftRight = Some N.ShiftRight
operator_of A.ArithmeticShiftLeft = Some N.ArithmeticShiftLeft
operator_of A.ArithmeticShiftRight = Some N.ArithmeticShiftRight

abbrev pub is_later : AssignmentOperator → Bool
is_later A.Nonblocking = true
is_later _ = false

-- a stream is no operand
abbrev pub as_operand : Context → Target → Checked Valued
as_operand k (ToPath v) = Ok v
as_operand k (ToParts v vs e) = Ok v
as_operand k (ToStream v) = Err (At (position k.source v.first) 512)

abbrev pub combined : Context → ℕ → Option BinaryOperator → Target → Operand → Checked Operand
combined k at None t o = Ok o
combined k at (Some op) t o = where_whole (as_operand k t) (λ l. where_whole (is_value k.source o) (λ r. where_whole (binary_of op k.source at l r) (λ v. Ok (Plain v))))

abbrev pub assign : Context → ℕ → Bool → Target → Expr → R.Stmt
assign k at later t e = S.Assign (parts_of t) e later (spot k.source at)

abbrev pub assignment : Context → ℕ → AssignmentOperator → Target → Operand → Checked R.Stmt
assignment k at op t o = where_whole (combined k at (operator_of op) t o) (λ v. where_whole (assigned k t v) (λ e. Ok (assign k at (is_later op) t e)))

-- a continuous assignment (clause 10.3)
abbrev pub continuous : Context → Lvalue → ℕ → X.Expr → Typing R.Stmt
continuous k to at e = both (target to k false) (operand k e) (λ t o. rule (assignment k at A.Assign t o))

-- `a++` is `a = a + 1`
abbrev pub one : Context → ℕ → Operand
one k at = Plain (by_itself k.source at (vector 32 true) (F.Literal (vec 32 (pos 1)) false))

abbrev pub step_operator : StepOperator → AssignmentOperator
step_operator U.Increment = A.Add
step_operator U.Decrement = A.Subtract

abbrev pub counted : Context → ℕ → StepOperator → ℕ → List Select → Typing R.Stmt
counted k name op at ss =
    checked (named_target k true (simple_name name) (map select_meaning ss))
    (λ v. rule (assignment k at (step_operator op) (ToPath v) (one k at)))

-- Declarations of a block: what the names stand for behind them, the latest first, and the locals that they make, in their order.
pub record Declared : Type 0 where
  pub values : List ParamValue
  pub types : List ParamType
  pub ids : List LocalId
  pub locals : List Local

abbrev pub nothing : Declared
nothing = record { values = []; types = []; ids = []; locals = [] }

abbrev pub behind : Context → Declared → Context
behind k d = with_locals d.ids (with_types d.types (with_values d.values k))

abbrev pub behind_if : Context → Option Declared → Context
behind_if k None = k
behind_if k (Some d) = behind k d

abbrev pub and_then : Declared → Declared → Declared
and_then d e = record { values = e.values ++ d.values; types = e.types ++ d.types; ids = e.ids ++ d.ids; locals = d.locals ++ e.locals }

-- each behind those before it
abbrev pub in_turn : Context → List (Context → Typing Declared) → Typing Declared
in_turn k [] = whole nothing
in_turn k (d ∷ ds) = both_by (d k) (λ o. in_turn (behind_if k o) ds) (λ a b. whole (and_then a b))

-- Variables. A value in a declaration counts as an assignment, each time that the declaration is reached.
abbrev pub initial_value : Context → SvType → Option Initializer → Typing (Option Expr)
initial_value k t None = whole None
initial_value k t (Some i) = checked (operand k i.value) (λ o. rule (where_whole (given k.source t o) (λ e. Ok (Some e))))

abbrev pub local_of : Context → ℕ → SvType → Option Expr → Declared
local_of k at t e =
    let id = local_id k at t in
    record nothing { ids = id ∷ []; locals = record { number = id.number; of = t; initial = e } ∷ [] }

-- a local's type has at most 65,536 bits (E701), whatever becomes of its value
abbrev pub local_type : Context → ℕ → Typing SvType → Typing SvType
local_type k at t = checked t (λ u. rule (not_too_long k.source at (width_of u) (Ok u)))

-- of a broken type the value is looked at by itself
abbrev pub with_type : Context → Option SvType → Option Initializer → Typing (Option Expr)
with_type k None None = broken Quiet
with_type k None (Some i) = checked (operand k i.value) (λ o. broken Quiet)
with_type k (Some t) i = initial_value k t i

abbrev pub variable : Option SvType → Declarator → Context → Typing Declared
variable of d k =
    both_by (local_type k d.name (declared_type k of d.unpacked)) (λ t. with_type k t d.initial) (λ t e. whole (local_of k d.name t e))

abbrev pub type_names : TypeFound → Declared
type_names f = record nothing { values = f.names }

abbrev pub names_if : Context → Option TypeFound → Context
names_if k None = k
names_if k (Some f) = with_values f.names k

abbrev pub variables_of : Context → Typing TypeFound → List Declarator → Typing Declared
variables_of k t ds =
    both_by t (λ o. in_turn (names_if k o) (map (variable (option_map (λ (f : TypeFound). f.of) o)) ds))
    (λ f d. whole (and_then (type_names f) d))

-- a type that is a name with selects in the place of dimensions
abbrev pub selected_type : Context → ℕ → List Select → Typing TypeFound
selected_type k of ss = elim (E.type_of_name k (simple_name of) (map select_meaning ss)) [
  | None ↦ broken Quiet
  | Some t ↦ checked t (λ u. whole (record { of = u; names = [] }))
]

-- Constants. One without a type has that of the one before it, else that of its value (E405 where it has none); with a sign alone it has
-- that sign and the range of its value (clause 6.20.2).
abbrev pub param_value : Context → ℕ → SvType → List Function → Expr → Checked ParamValue
param_value k at t fs e = Ok (record { decl = k.declared at; of = t; value = value_by fs t e })

abbrev pub constant_value : Context → ℕ → Option SvType → Operand → List Function → Checked ParamValue
constant_value k at None o fs = where_whole (is_constant_value k.source o) (λ v. where_whole (constant_alone k.source v fs) (param_value k at v.expr.of fs))
constant_value k at (Some t) o fs = where_whole (constant_of k.source t o fs) (param_value k at t fs)

-- what is written of a type: a type, or at most a sign, and the value gives the rest
pub data WrittenType : Type 0 where
  OfValue : Option Signing → WrittenType
  OfType : SvType → WrittenType

abbrev pub ranged_value : Context → ℕ → Signing → Operand → List Function → Checked ParamValue
ranged_value k at s o fs =
    where_whole (is_constant_value k.source o) (λ v. constant_value k at (Some (vector (width v) (is_signed_by s))) (Plain v) fs)

abbrev pub written_value : Context → ℕ → WrittenType → Operand → List Function → Checked ParamValue
written_value k at (OfValue None) o fs = constant_value k at None o fs
written_value k at (OfValue (Some s)) o fs = ranged_value k at s o fs
written_value k at (OfType t) o fs = constant_value k at (Some t) o fs

abbrev pub constant : Context → ℕ → WrittenType → Option Initializer → Typing Declared
constant k at t None = broken (At (position k.source at) 405)
constant k at t (Some i) =
    checked (operand k i.value)
    (λ o. checked (by_functions (written_value k at t o)) (λ v. rule (not_too_long k.source at (width_of v.of) (Ok (record nothing { values = v ∷ [] })))))

-- The type that is written, or that of the parameter before where nothing is.
abbrev pub nothing_written : Option Signing → List Dimension → Bool
nothing_written None [] = true
nothing_written None (d ∷ ds) = false
nothing_written (Some s) ds = false

abbrev pub is_unwritten : TypeText → Bool
is_unwritten t = elim (out-TypeText t) [
  | TypeText-F.Keyword of ds ↦ false
  | TypeText-F.Structure of packing opening ms closing ds ↦ false
  | TypeText-F.Enumeration keyword base opening ns closing ds ↦ false
  | TypeText-F.Named of ds ↦ false
  | TypeText-F.Implicit signing ds ↦ nothing_written signing ds
]

abbrev pub if_alone : Option Signing → List Dimension → Option Signing
if_alone s [] = s
if_alone s (d ∷ ds) = None

abbrev pub sign_alone : TypeText → Option Signing
sign_alone t = elim (out-TypeText t) [
  | TypeText-F.Keyword of ds ↦ None
  | TypeText-F.Structure of packing opening ms closing ds ↦ None
  | TypeText-F.Enumeration keyword base opening ns closing ds ↦ None
  | TypeText-F.Named of ds ↦ None
  | TypeText-F.Implicit signing ds ↦ if_alone signing ds
]

abbrev pub sign_or_type : Context → TypeText → Option Signing → Typing WrittenType
sign_or_type k of (Some s) = whole (OfValue (Some s))
sign_or_type k of None = checked (typed_text of k) (λ f. whole (OfType f.of))

abbrev pub written_type : Context → WrittenType → TypeText → Typing WrittenType
written_type k before of = cond (is_unwritten of) (whole before) (sign_or_type k of (sign_alone of))

-- under dimensions behind the name stands one bit where no type is written
abbrev pub type_or_bit : WrittenType → SvType
type_or_bit (OfValue s) = implicit_type s []
type_or_bit (OfType t) = t

abbrev pub with_dimensions : Context → WrittenType → List Dimension → Typing WrittenType
with_dimensions k t [] = whole t
with_dimensions k t (d ∷ ds) = checked (dims k (d ∷ ds)) (λ e. whole (OfType (unpacked e (type_or_bit t))))

-- a parameter that is a type, and what a value declares, with the type that the next parameter takes
pub data Kind : Type 0 where
  IsType : Kind
  IsValue : WrittenType → Kind

pub record Parameter : Type 0 where
  pub kind : Kind
  pub declared : Declared

abbrev pub type_parameter : Context → ℕ → Option Initializer → Typing Parameter
type_parameter k at None = broken (At (position k.source at) 405)
type_parameter k at (Some i) = elim ((meaning i.value).as_type k) [
  | None ↦ broken Quiet
  | Some t ↦ checked t (λ u. whole (record { kind = IsType; declared = record nothing { types = record { decl = k.declared at; of = u } ∷ [] } }))
]

abbrev pub by_dimensions : Context → Declarator → WrittenType → Typing Declared
by_dimensions k d t =
    both_by (with_dimensions k t d.unpacked) (λ o. value_if o) (λ u v. whole v)
  where
    value_if : Option WrittenType → Typing Declared
    value_if None = with_no_type d.initial
      where
        with_no_type : Option Initializer → Typing Declared
        with_no_type None = broken Quiet
        with_no_type (Some i) = checked (operand k i.value) (λ o. broken Quiet)
    value_if (Some u) = constant k d.name u d.initial

abbrev pub value_parameter : Context → WrittenType → TypeText → Declarator → Typing Parameter
value_parameter k before of d =
    both_by (written_type k before of) (λ o. value_if o) (λ t v. whole (record { kind = IsValue t; declared = v }))
  where
    value_if : Option WrittenType → Typing Declared
    value_if None = broken Quiet
    value_if (Some t) = by_dimensions k d t

abbrev pub parameter : Context → Kind → ParameterBody → Typing Parameter
parameter k before (P.Type keyword name initial) = type_parameter k name initial
parameter k IsType (P.Value of d) = cond (is_unwritten of) (type_parameter k d.name d.initial) (value_parameter k (OfValue None) of d)
parameter k (IsValue t) (P.Value of d) = value_parameter k t of d

abbrev pub kind_if : Option Parameter → Kind
kind_if None = IsValue (OfValue None)
kind_if (Some p) = p.kind

abbrev pub declared_if : Context → Option Parameter → Context
declared_if k None = k
declared_if k (Some p) = behind k p.declared

abbrev pub parameters : Context → Kind → List ParameterBody → Typing Declared
parameters k before [] = whole nothing
parameters k before (b ∷ bs) =
    both_by (parameter k before b) (λ o. parameters (declared_if k o) (kind_if o) bs) (λ p d. whole (and_then p.declared d))

-- Items of a block. A declaration behind statements opens a block with what stands behind it.
pub data BlockPart : Type 0 where
  IsStatement : R.Stmt → BlockPart
  IsDeclared : Declared → BlockPart

abbrev pub PartMeaning : Type 0
PartMeaning = Context → Typing BlockPart

abbrev pub behind_part : Context → Option BlockPart → Context
behind_part k None = k
behind_part k (Some (IsStatement s)) = k
behind_part k (Some (IsDeclared d)) = behind k d

abbrev pub block_parts : Context → List PartMeaning → Typing (List BlockPart)
block_parts k [] = whole []
block_parts k (p ∷ ps) = both_by (p k) (λ o. block_parts (behind_part k o) ps) (λ q qs. whole (q ∷ qs))

pub record Block : Type 0 where
  pub locals : List Local
  pub body : List R.Stmt

abbrev pub in_block : List Local → List R.Stmt → List R.Stmt
in_block [] body = body
in_block (l ∷ ls) body = S.Block (l ∷ ls) body ∷ []

abbrev pub built : List BlockPart → Block
built [] = record { locals = []; body = [] }
built (IsStatement s ∷ ps) = let rest = built ps in record { locals = []; body = s ∷ in_block rest.locals rest.body }
built (IsDeclared d ∷ ps) = let rest = built ps in record { locals = d.locals ++ rest.locals; body = rest.body }

abbrev pub block : Context → List PartMeaning → Typing R.Stmt
block k ps = checked (block_parts k ps) (λ qs. let b = built qs in whole (S.Block b.locals b.body))

-- statements that are nothing, and a `return` with its value
abbrev pub empty : R.Stmt
empty = S.Block [] []

abbrev pub result : Context → ℕ → SvType → Expr
result k at t = expr_at k.source at t (F.Local 0)

abbrev pub return_value : Context → ℕ → Option SvType → Operand → Checked R.Stmt
return_value k at None o = Err Quiet
return_value k at (Some t) o =
    where_whole (given k.source t o) (λ e. Ok (S.Block [] (S.Assign (result k at t ∷ []) e false (spot k.source at) ∷ S.Return ∷ [])))

abbrev pub returned : Context → ℕ → Option X.Expr → Typing R.Stmt
returned k at None = whole S.Return
returned k at (Some e) = checked (operand k e) (λ o. rule (return_value k at k.result o))

-- the condition of a statement
abbrev pub condition : Context → X.Expr → Typing Valued
condition k e = bits_in k.source (operand k e)

-- the branches of an `if`
pub record Branches : Type 0 where
  pub body : R.Stmt
  pub other : Option R.Stmt

abbrev pub branches : R.Stmt → Option R.Stmt → Typing Branches
branches body other = whole (record { body = body; other = other })

-- `case`: the selector and all values have the width of the widest
abbrev pub case_kind : CaseKeyword → CaseKind
case_kind (K.Case at) = Q.Plain
case_kind (K.Casez at) = Q.Z
case_kind (K.Casex at) = Q.X

pub record CaseItem : Type 0 where
  pub is_default : Bool
  pub values : List Valued
  pub body : R.Stmt

-- An item as it is found: its values make others wider also where a statement is broken. What stands behind is looked at as without a
-- broken statement, which has no part in it.
pub record CaseFound : Type 0 where
  pub is_default : Bool
  pub values : Checked (List Valued)
  pub body : Checked R.Stmt

abbrev pub CaseMeaning : Type 0
CaseMeaning = Context → Typing CaseFound

abbrev pub whole_item : CaseFound → Checked CaseItem
whole_item c = where_whole (joined c.values c.body) (λ p. Ok (record { is_default = c.is_default; values = p.0; body = p.1 }))

abbrev pub case_items : List CaseItem → List T.CaseItem
case_items cs = flat_map (λ (c : CaseItem). cond c.is_default [] (record { values = exprs c.values; body = c.body } ∷ [])) cs

abbrev pub default_body : List CaseItem → Option R.Stmt
default_body [] = None
default_body (c ∷ cs) = cond c.is_default (Some c.body) (default_body cs)

-- the width of the widest of the selector and the values, where all of these are whole; else no operator in them is too wide
abbrev pub widest : Checked (Valued × List (List Valued)) → ℕ
widest (Ok p) = most (map width (p.0 ∷ flat_map (λ vs. vs) p.1))
widest (Err b) = 0

-- the selector and an item at that width
abbrev pub selector_at : Context → ℕ → Checked Valued → Checked Valued
selector_at k w on = where_whole on (λ v. sized k.source w v v)

abbrev pub wide_in : ℕ → List Valued → List ℕ
wide_in w vs = flat_map (λ (u : Valued). too_wide w u.arithmetic) vs

abbrev pub values_at : Context → ℕ → Checked (List Valued) → Checked (List Valued)
values_at k w x = where_whole x (λ vs. unless (at_all k.source.instance 502 (wide_in w vs)) vs)

abbrev pub item_at : Context → ℕ → CaseFound → CaseFound
item_at k w c = record { is_default = c.is_default; values = values_at k w c.values; body = c.body }

abbrev pub case_stmt : Context → CaseKind → Checked Valued → List CaseFound → Checked R.Stmt
case_stmt k kind on cs =
    let w = widest (joined on (all_of (map (λ (c : CaseFound). c.values) cs))) in
    where_whole (joined (selector_at k w on) (all_of (map whole_item (map (item_at k w) cs))))
    (λ p. Ok (S.Case kind p.0.expr (case_items p.1) (default_body p.1)))

-- Loops. The first value is converted to the variable's type. A cast values its inside alone, so what is given to a wider variable
-- has its width from a `?:`, of which it is the arm that is always taken.
abbrev pub always : Context → ℕ → Expr
always k at = expr_at k.source at one_bit (F.Literal (One ∷ []) false)

abbrev pub widened : Context → ℕ → ℕ → Expr → Expr
widened k at w e =
    let t = vector w (sign_of e.of) in
    cond (nat_lt (width_of e.of) w) (expr_at k.source at t (F.Choose (always k at) e (expr_at k.source at t (F.Literal (vec w (pos 0)) false)))) e

abbrev pub loop_first : Context → SvType → Operand → Checked Expr
loop_first k t (Plain v) = where_whole (passed k.source t (Plain v)) (λ e. Ok (cast_expr k.source v.first t (widened k v.first (width_of t) e)).expr)
loop_first k t (Pattern tick of) = where_whole (of tick t) (λ e. Ok (cast_expr k.source tick t e).expr)
loop_first k t (Stream v) = passed k.source t (Stream v)

pub record LoopVariable : Type 0 where
  pub id : LocalId
  pub first : Expr

abbrev pub first_by : Context → LoopStart → Option TypeFound → Typing Expr
first_by k l None = checked (operand k l.value) (λ o. broken Quiet)
first_by k l (Some f) = checked (operand k l.value) (λ o. rule (loop_first k f.of o))

abbrev pub loop_type : Context → LoopStart → Typing TypeFound
loop_type k l = checked (typed_text l.of k) (λ f. rule (not_too_long k.source l.name (width_of f.of) (Ok f)))

abbrev pub loop_variable : Context → LoopStart → Typing LoopVariable
loop_variable k l =
    both_by (loop_type k l) (first_by k l) (λ f e. whole (record { id = local_id k l.name f.of; first = e }))

abbrev pub id_of : Option LoopVariable → Option LocalId
id_of o = option_map (λ (v : LoopVariable). v.id) o

abbrev pub in_loop : Context → Option LoopVariable → Context
in_loop k None = k
in_loop k (Some v) = with_locals (v.id ∷ []) k

-- A step assigns to the variable of its loop, whatever its name finds: another name breaks a rule of names (E404).
abbrev pub loop_target : Context → Option LocalId → ℕ → Typing Target
loop_target k None name = broken Quiet
loop_target k (Some id) name = whole (ToPath (by_itself k.source name id.of (F.Local id.number)))

-- what is assigned behind each turn; no stream stands there
abbrev pub step_value : Context → ℕ → AssignmentOperator → Target → Operand → Checked Expr
step_value k at op t o = where_whole (no_stream k.source o) (λ p. where_whole (combined k at (operator_of op) t p) (assigned k t))

abbrev pub loop_step : Context → Option LocalId → LoopStep → Typing Expr
loop_step k o (L.Assign name op at e) = both (loop_target k o name) (operand k e) (λ t p. rule (step_value k at op t p))
loop_step k o (L.Postfix name op at) = checked (loop_target k o name) (λ t. rule (step_value k at (step_operator op) t (one k at)))
loop_step k o (L.Prefix op at name) = checked (loop_target k o name) (λ t. rule (step_value k at (step_operator op) t (one k at)))

pub record Control : Type 0 where
  pub test : Valued
  pub step : Expr

abbrev pub control : Valued → Expr → Typing Control
control v e = whole (record { test = v; step = e })

pub record Turns : Type 0 where
  pub control : Control
  pub body : R.Stmt

abbrev pub turns : Control → R.Stmt → Typing Turns
turns c s = whole (record { control = c; body = s })

abbrev pub loop_stmt : Context → ℕ → LoopVariable → Turns → R.Stmt
loop_stmt k at v t = S.Loop v.id.number v.first t.control.test.expr t.control.step t.body (spot k.source at)

-- Calls of tasks and void functions. An input is passed, an output assigned to the actual, which is a target (E501).
pub record Actual : Type 0 where
  pub value : Option Operand
  pub target : Option Valued

abbrev pub as_value : Context → Meaning → Typing Actual
as_value k e = checked (unstreamed k.source (e.typed k)) (λ o. whole (record { value = Some o; target = None }))

-- what isn't in the form of a target is looked at as a value, and broken at its first token
abbrev pub as_target : Context → Meaning → Typing Actual
as_target k e = elim (e.as_target k) [
  | None ↦ checked (e.typed k) (λ o. broken (At (position k.source (first_of o)) 501))
  | Some x ↦ checked x (λ v. whole (record { value = None; target = Some v }))
]

abbrev pub actual_by : Context → Option Way → Meaning → Typing Actual
actual_by k None e = as_value k e
actual_by k (Some W.Input) e = as_value k e
actual_by k (Some W.Output) e = as_target k e
actual_by k (Some W.Inout) e = as_target k e

abbrev pub ways : Option Called → List Way
ways None = []
ways (Some c) = map (λ (f : Formal). f.way) c.of.formals

abbrev pub actuals : Context → List Way → List Meaning → List (Typing Actual)
actuals k ws [] = []
actuals k [] (e ∷ es) = actual_by k None e ∷ actuals k [] es
actuals k (w ∷ ws) (e ∷ es) = actual_by k (Some w) e ∷ actuals k ws es

-- an enum takes its own type alone, and none as a part of a concatenation
abbrev pub is_other_enum : SvType → Expr → Bool
is_other_enum t e = is_plain_to_enum e.of t || has_enum_part e

abbrev pub takes_result : Context → Bool → SvType → Valued → Checked Expr
takes_result k back t v =
    refused (not (is_assignable v.expr.of t) || (back && not (is_assignable t v.expr.of))) (position k.source v.first) 501
    (refused (is_other_enum t v.expr || (back && is_plain_to_enum t v.expr.of)) (position k.source v.first) 503 (Ok v.expr))

abbrev pub is_inout : Way → Bool
is_inout W.Input = false
is_inout W.Output = false
is_inout W.Inout = true

abbrev pub value_passed : Context → SvType → Option Operand → Checked Expr
value_passed k t None = Err Quiet
value_passed k t (Some o) = passed k.source t o

abbrev pub actual_expr : Context → Formal → Actual → Checked Expr
actual_expr k f a = elim a.target [
  | None ↦ value_passed k f.local.of a.value
  | Some v ↦ takes_result k (is_inout f.way) f.local.of v
]

abbrev pub all_actuals : Context → List Formal → List Actual → List (Checked Expr)
all_actuals k [] as' = []
all_actuals k (f ∷ fs) [] = []
all_actuals k (f ∷ fs) (a ∷ as') = actual_expr k f a ∷ all_actuals k fs as'

abbrev pub call_stmt_of : Context → ℕ → Called → List Actual → Checked R.Stmt
call_stmt_of k at c as' =
    refused (not (length c.of.formals == length as')) (position k.source at) 405
    (where_whole (all_of (all_actuals k c.of.formals as')) (λ es. Ok (S.Call c.place es (spot k.source at))))

abbrev pub counted_call : Context → QualifiedName → List Meaning → Typing R.Stmt
counted_call k of es = both_by (needed k of.name (k.finds of)) (λ o. all (actuals k (ways o) es)) (λ c as'. rule (call_stmt_of k of.name c as'))

-- of another number of actuals none belongs to a formal: all are looked at as values
abbrev pub call_stmt : Context → QualifiedName → List Meaning → Typing R.Stmt
call_stmt k of es =
    cond (finds_count k (k.finds of) (length es)) (counted_call k of es)
    (with_other_count (position k.source of.name) (needed k of.name (k.finds of)) (all (actuals k [] es)))

-- statements, form by form
abbrev pub StmtMeaning : Type 0
StmtMeaning = Context → Typing R.Stmt

abbrev pub item_step : BlockItem-F PartMeaning CaseMeaning StmtMeaning StmtMeaning → PartMeaning
item_step (BlockItem-F.Statement s) k = checked (s k) (λ t. whole (IsStatement t))
item_step (BlockItem-F.Parameters p) k = checked (parameters k (IsValue (OfValue None)) p.bodies) (λ d. whole (IsDeclared d))
item_step (BlockItem-F.Variables automatic «var» of ds semicolon) k = checked (variables_of k (typed_text of k) ds) (λ d. whole (IsDeclared d))
item_step (BlockItem-F.NamedVariables of ss ds semicolon) k = checked (variables_of k (selected_type k of ss) ds) (λ d. whole (IsDeclared d))

abbrev pub case_step : CaseItem-F PartMeaning CaseMeaning StmtMeaning StmtMeaning → CaseMeaning
case_step (CaseItem-F.Values es colon body) k =
    both (looked_at (all (map (condition k) es))) (tried (body k)) (λ vs s. whole (record { is_default = false; values = vs; body = s }))
case_step (CaseItem-F.Default keyword colon body) k =
    checked (tried (body k)) (λ s. whole (record { is_default = true; values = Ok []; body = s }))

abbrev pub else_step : Else-F PartMeaning CaseMeaning StmtMeaning StmtMeaning → StmtMeaning
else_step e = e.body

abbrev pub else_if : Context → Option StmtMeaning → Typing (Option R.Stmt)
else_if k None = whole None
else_if k (Some s) = checked (s k) (λ t. whole (Some t))

abbrev pub stmt_step : Stmt-F PartMeaning CaseMeaning StmtMeaning StmtMeaning → StmtMeaning
stmt_step (Stmt-F.Block begin label items end end_label) k = block k items
stmt_step (Stmt-F.If promise keyword opening test closing body other) k =
    both (condition k test) (both (body k) (else_if k other) branches) (λ v b. whole (S.If v.expr b.body b.other))
stmt_step (Stmt-F.Case promise keyword opening sought closing items end) k =
    both (looked_at (condition k sought)) (all (map (λ (c : CaseMeaning). c k) items)) (λ v cs. rule (case_stmt k (case_kind keyword) v cs))
stmt_step (Stmt-F.For keyword opening first first_semicolon test test_semicolon step closing body) k =
    both_by (loop_variable k first)
    (λ o. let inner = in_loop k o in
    both (both (condition inner test) (loop_step inner (id_of o) step) control) (body inner) turns)
    (λ v t. whole (loop_stmt k keyword v t))
stmt_step (Stmt-F.Break keyword semicolon) k = whole S.Break
stmt_step (Stmt-F.Continue keyword semicolon) k = whole S.Continue
stmt_step (Stmt-F.Return keyword e semicolon) k = returned k keyword e
stmt_step (Stmt-F.Call of opening arguments closing semicolon) k = call_stmt k of (map meaning arguments)
stmt_step (Stmt-F.Assign to op at e semicolon) k = both (target to k true) (operand k e) (λ t o. rule (assignment k at op t o))
stmt_step (Stmt-F.Postfix name ss op at semicolon) k = counted k name op at ss
stmt_step (Stmt-F.Prefix op at name ss semicolon) k = counted k name op at ss
stmt_step (Stmt-F.Empty semicolon) k = whole empty

abbrev pub stmt_meaning : Stmt → StmtMeaning
stmt_meaning = fold-Stmt PartMeaning CaseMeaning StmtMeaning StmtMeaning item_step case_step stmt_step else_step

abbrev pub item_meaning : BlockItem → PartMeaning
item_meaning = fold-BlockItem PartMeaning CaseMeaning StmtMeaning StmtMeaning item_step case_step stmt_step else_step

abbrev pub typed_stmt : Context → Stmt → Typing R.Stmt
typed_stmt k s = stmt_meaning s k
