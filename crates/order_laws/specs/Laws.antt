-- The law: where the tokens of a tree ascend in a part of a text, what the tree means breaks rules there alone, in the order of the text.
use Rattle.std.specs.Prelude.{ℕ, ◌≤◌, ◌++◌, List, ◌∷◌, Option, Some, None}
use Rattle.sv_tree.specs.declared.declarations.ParameterBody.{ParameterBody}
use Rattle.sv_tree.specs.declared.expressions.Expr.{Expr}
use Rattle.sv_tree.specs.declared.statements.Lvalue.{Lvalue}
use Rattle.sv_tree.specs.declared.statements.Stmt.{Stmt}
use Rattle.sv_tree.specs.declared.types.TypeText.{TypeText}
use Rattle.sv_types.specs.declared.statement.Function.{Function}
use Rattle.sv_types.specs.declared.types.SvType.{SvType}
use Rattle.expr_type.specs.Names.{Context, RoutineText}
use Rattle.expr_type.specs.Expressions.{typed_expr}
use Rattle.expr_type.specs.Types.{typed_text}
use Rattle.expr_type.specs.Statements.{Kind, continuous, parameters, typed_stmt}
use Rattle.expr_type.specs.Functions.{routine}
use Rattle.expr_type.specs.Placed.{Ascend, Placed, PlacedTyping, RoutinesInOrder}
use Rattle.order_laws.specs.Ordered.{expr_tokens, lvalue_tokens, parameters_tokens, routine_tokens, stmt_tokens, type_tokens}

-- functions and tasks, each with its tokens ascending in a text of its own
abbrev pub AscendsIf : Option RoutineText → Type 0
AscendsIf None = Unit {0}
AscendsIf (Some t) = (low : ℕ) × (high : ℕ) × (low ≤ high) × Ascend low high (routine_tokens t)

abbrev pub TextsAscend : Context → Type 0
TextsAscend k = (n : ℕ) → AscendsIf (k.text n)

pub record TreesKeepOrder : Type 0 where
  -- an expression, by itself or given to a target of a type
  pub expr : (e : Expr) (want : Option SvType) (low high : ℕ) → low ≤ high → Ascend low high (expr_tokens e) → (k : Context) → RoutinesInOrder k → PlacedTyping k.source.instance low high (typed_expr k e want)
  pub text : (t : TypeText) (low high : ℕ) → low ≤ high → Ascend low high (type_tokens t) → (k : Context) → RoutinesInOrder k → PlacedTyping k.source.instance low high (typed_text t k)
  pub parameters : (before : Kind) (bs : List ParameterBody) (low high : ℕ) → low ≤ high → Ascend low high (parameters_tokens bs) → (k : Context) → RoutinesInOrder k → PlacedTyping k.source.instance low high (parameters k before bs)
  -- a continuous assignment
  pub assignment : (to : Lvalue) (at : ℕ) (e : Expr) (low high : ℕ) → low ≤ high → Ascend low high (lvalue_tokens to ++ (at ∷ expr_tokens e)) → (k : Context) → RoutinesInOrder k → PlacedTyping k.source.instance low high (continuous k to at e)
  pub stmt : (s : Stmt) (low high : ℕ) → low ≤ high → Ascend low high (stmt_tokens s) → (k : Context) → RoutinesInOrder k → PlacedTyping k.source.instance low high (typed_stmt k s)
  -- functions and tasks, at any depth of calls
  pub routines : (depth : ℕ) (k : Context) → TextsAscend k → (n : ℕ) (fs : List Function) → ((i : ℕ) × (low : ℕ) × (high : ℕ) × Placed i low high (routine depth k n fs).result)
