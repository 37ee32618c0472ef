-- The laws: tokens ascend in a tree that is read, and the first break of a text of a frame, in the order of the text, is the least.
use Rattle.std.specs.Prelude.{◌≡◌, ℕ, List, [], ◌∷◌, ◌++◌, Option, Some, None, Ok, Err}
use Rattle.sv_source.specs.declared.token.Token.{Token}
use Rattle.sv_tree.specs.declared.declarations.ParameterBody.{ParameterBody}
use Rattle.sv_tree.specs.declared.expressions.Expr.{Expr}
use Rattle.sv_tree.specs.declared.statements.Lvalue.{Lvalue}
use Rattle.sv_tree.specs.declared.statements.Stmt.{Stmt}
use Rattle.sv_tree.specs.declared.types.TypeText.{TypeText}
use Rattle.sv_tree.specs.declared.units.SourceTree.{SourceTree}
use Rattle.sv_types.specs.declared.frame.Frame.{Frame}
use Rattle.sv_types.specs.declared.types.SvType.{SvType}
use Rattle.sv_build.specs.Reading.{Reads}
use Rattle.package_scope.specs.declared.table.Table.{Table}
use Rattle.expr_type.specs.Answers.{Break, first_break}
use Rattle.expr_type.specs.Breaks.{Position, Breaks, Key, IsLeast, first}
use Rattle.expr_type.specs.Names.{RoutineText}
use Rattle.expr_type.specs.Routines.{named_at, routines}
use Rattle.expr_type.specs.Statements.{Kind, continuous, parameters}
use Rattle.expr_type.specs.Types.{typed_text}
use Rattle.expr_type.specs.Typings.{Checked}
use Rattle.frame_texts.specs.Frames.{context, type_expr, type_function, type_stmt}
use Rattle.order_laws.specs.Ordered.{Tokens, expr_tokens, lvalue_tokens, parameters_tokens, routine_tokens, stmt_tokens, type_tokens}
use Rattle.least_laws.specs.Trees.{IsPart, Somewhere, tree_tokens}

pub record TreesAscend : Type 0 where
  -- the whole tree, and what stands in it in one piece
  pub tree : (tokens : List Token) (tree : SourceTree) → Reads tokens tree → Somewhere (tree_tokens tree)
  pub part : (tokens : List Token) (tree : SourceTree) (ts : Tokens) → Reads tokens tree → IsPart ts tree → Somewhere ts
  -- the function or task whose name stands at a token
  pub routine : (tokens : List Token) (tree : SourceTree) (at : ℕ) (t : RoutineText) → Reads tokens tree → named_at at (routines tree) ≡ Some t → Somewhere (routine_tokens t)

-- something is whole, or no break comes before the first
abbrev pub FirstIsLeast : {A : Type 0} → Checked A → Type 0
FirstIsLeast (Ok a) = Unit {0}
FirstIsLeast (Err b) = IsLeast b (first b)

-- the last token of a turn, and what is told of a break: that token and its rule
abbrev pub token_from : ℕ → List Position → ℕ
token_from at [] = at
token_from at (p ∷ ps) = token_from p.at ps

abbrev pub break_from : ℕ → Option Key → Option Break
break_from at None = None
break_from at (Some k) = Some (record { at = token_from at k.turn; rule = k.rule })

abbrev pub break_of : Option Key → Option Break
break_of k = break_from 0 k

-- of a source that is read, whatever the table of its names and the frame
pub record FirstBreaksAreLeast : Type 0 where
  -- what stands in the tree
  pub expr : (tokens : List Token) (tree : SourceTree) (t : Table) (f : Frame) (at : ℕ) (e : Expr) (want : Option SvType) → Reads tokens tree → IsPart (expr_tokens e) tree
      → FirstIsLeast (type_expr tree t f at e want).result
  pub stmt : (tokens : List Token) (tree : SourceTree) (t : Table) (f : Frame) (at : ℕ) (s : Stmt) → Reads tokens tree → IsPart (stmt_tokens s) tree → FirstIsLeast (type_stmt tree t f at s).result
  pub function : (tokens : List Token) (tree : SourceTree) (t : Table) (f : Frame) (n : ℕ) → Reads tokens tree → FirstIsLeast (type_function tree t f n).result
  -- whatever has tokens that ascend
  pub any_expr : (tokens : List Token) (tree : SourceTree) (t : Table) (f : Frame) (at : ℕ) (e : Expr) (want : Option SvType) → Reads tokens tree → Somewhere (expr_tokens e)
      → FirstIsLeast (type_expr tree t f at e want).result
  pub any_stmt : (tokens : List Token) (tree : SourceTree) (t : Table) (f : Frame) (at : ℕ) (s : Stmt) → Reads tokens tree → Somewhere (stmt_tokens s) → FirstIsLeast (type_stmt tree t f at s).result
  -- types, parameters and continuous assignments in the text of a frame
  pub any_type : (tokens : List Token) (tree : SourceTree) (t : Table) (f : Frame) (at : ℕ) (x : TypeText) → Reads tokens tree → Somewhere (type_tokens x)
      → FirstIsLeast (typed_text x (context tree t f at) f.functions).result
  pub any_parameters : (tokens : List Token) (tree : SourceTree) (t : Table) (f : Frame) (at : ℕ) (before : Kind) (bs : List ParameterBody) → Reads tokens tree → Somewhere (parameters_tokens bs)
      → FirstIsLeast (parameters (context tree t f at) before bs f.functions).result
  pub any_assignment : (tokens : List Token) (tree : SourceTree) (t : Table) (f : Frame) (at : ℕ) (to : Lvalue) (equals : ℕ) (e : Expr) → Reads tokens tree
      → Somewhere (lvalue_tokens to ++ (equals ∷ expr_tokens e)) → FirstIsLeast (continuous (context tree t f at) to equals e f.functions).result
  -- what calls answer of breaks is the token and the rule of the first
  pub told : (b : Breaks) → first_break b ≡ break_of (first b)
