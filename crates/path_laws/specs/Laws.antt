-- The laws: what the rules of typing give for paths, as lowering takes it.
use Rattle.std.specs.Prelude.{◌≡◌, ℕ, Bool, true, false, List, [], ◌∷◌, map, Some, Ok}
use Rattle.sv_tree.specs.declared.expressions.Dimension.{Dimension}
use Rattle.sv_tree.specs.declared.expressions.Expr as X
use Rattle.sv_tree.specs.declared.expressions.Select.{Select}
use Rattle.sv_tree.specs.declared.names.QualifiedName.{QualifiedName}
use Rattle.sv_tree.specs.declared.statements.BlockItem.{BlockItem}
use Rattle.sv_tree.specs.declared.statements.Lvalue.{Lvalue}
use Rattle.sv_tree.specs.declared.statements.Stmt.{Stmt}
use Rattle.sv_tree.specs.declared.types.TypeText.{TypeText}
use Rattle.sv_types.specs.declared.expression.Expr.{Expr}
use Rattle.sv_types.specs.declared.statement.Function.{Function}
use Rattle.sv_types.specs.declared.statement.Stmt as R
use Rattle.sv_types.specs.declared.types.SvType.{SvType}
use Rattle.expr_type.specs.declared.operand.Valued.{Valued}
use Rattle.expr_type.specs.Typings.{Typing}
use Rattle.expr_type.specs.Names.{Context, Thing, thing}
use Rattle.expr_type.specs.Forms.{named}
use Rattle.expr_type.specs.TargetNames.{named_target, actual_target}
use Rattle.expr_type.specs.Expressions.{meaning, select_meaning}
use Rattle.expr_type.specs.Statements.{typed_stmt, block, item_meaning, continuous}
use Rattle.expr_type.specs.Targets.{Target, target, parts_of}
use Rattle.expr_type.specs.Types.{TypeFound, typed_text, declared_type}
use Rattle.typed_paths.specs.Typed.{IsTyped}
use Rattle.path_laws.specs.Bases.{has_plain_bases}
use Rattle.path_laws.specs.Names.{AllTypesPlain, PlainNames, PlainText, IsPathOf, IsConstant}
use Rattle.path_laws.specs.Statements.{AssignsTyped}
use Rattle.path_laws.specs.Targets.{AreTargets}

-- A name with selects that is typed: as a target, as an actual of an output, or as a value that isn't a constant's.
pub record PathsAreTyped : Type 0 where
  pub target : (k : Context) (in_statement : Bool) (of : QualifiedName) (ss : List Select) (fs : List Function) (v : Valued) → PlainNames k
      → (named_target k in_statement of (map select_meaning ss) fs).result ≡ Ok v → IsPathOf k.signals (thing k of) v.expr
  pub actual : (k : Context) (of : QualifiedName) (ss : List Select) (fs : List Function) (v : Valued) → PlainNames k
      → (actual_target k of (map select_meaning ss) fs).result ≡ Ok v → IsPathOf k.signals (thing k of) v.expr
  pub value : (k : Context) (of : QualifiedName) (ss : List Select) (fs : List Function) (v : Valued) → PlainNames k → (IsConstant (thing k of) → ⊥)
      → (named k of (map select_meaning ss) fs).result ≡ Ok v → IsPathOf k.signals (thing k of) v.expr
  pub typed : (k : Context) (t : Thing) (e : Expr) → IsPathOf k.signals t e → IsTyped e

-- A target that is typed, in a statement or not: what an assignment writes; and an expression that is typed as a target, an actual.
pub record TargetsAreTyped : Type 0 where
  pub target : (k : Context) (in_statement : Bool) (l : Lvalue) (fs : List Function) (t : Target) → PlainNames k → (target l k in_statement fs).result ≡ Ok t → AreTargets true (parts_of t)
  pub actual : (k : Context) (e : X.Expr) (x : Typing Valued) (fs : List Function) (v : Valued) → PlainNames k → (meaning e).as_target k ≡ Some x → (x fs).result ≡ Ok v → AreTargets false (v.expr ∷ [])

-- A type as it is written, where no enum in the types that names stand for has an unpacked base; and with dimensions behind a name.
pub record BasesArePlain : Type 0 where
  pub text : (k : Context) (x : TypeText) (fs : List Function) (f : TypeFound) → AllTypesPlain k.types → (typed_text x k fs).result ≡ Ok f → has_plain_bases f.of ≡ true
  pub declared : (k : Context) (t u : SvType) (ds : List Dimension) (fs : List Function) → has_plain_bases t ≡ true → (declared_type k (Some t) ds fs).result ≡ Ok u → has_plain_bases u ≡ true

-- A statement that is typed, and so a continuous assignment: what its assignments write.
pub record StatementsAreTyped : Type 0 where
  pub statement : (k : Context) (s : Stmt) (fs : List Function) (t : R.Stmt) → PlainText k → (typed_stmt k s fs).result ≡ Ok t → AssignsTyped t
  pub block : (k : Context) (items : List BlockItem) (fs : List Function) (t : R.Stmt) → PlainText k → (block k (map item_meaning items) fs).result ≡ Ok t → AssignsTyped t
  pub continuous : (k : Context) (to : Lvalue) (at : ℕ) (e : X.Expr) (fs : List Function) (t : R.Stmt) → PlainNames k → (continuous k to at e fs).result ≡ Ok t → AssignsTyped t
