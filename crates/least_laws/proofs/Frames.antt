-- The first breaks of the texts of frames.
use Rattle.std.proofs.Common.{◌≡◌, ℕ, ◌∷◌, ◌++◌, List, length, Option, Some, None, refl}
use Rattle.std.specs.Prelude.{Ok, Err, slice_get}
use Rattle.sv_source.specs.declared.token.Token.{Token}
use Rattle.sv_tree.specs.declared.declarations.ParameterBody.{ParameterBody}
use Rattle.sv_tree.specs.declared.expressions.Expr.{Expr}
use Rattle.sv_tree.specs.declared.statements.Lvalue.{Lvalue}
use Rattle.sv_tree.specs.declared.statements.Stmt.{Stmt}
use Rattle.sv_tree.specs.declared.types.TypeText.{TypeText}
use Rattle.sv_tree.specs.declared.units.SourceTree.{SourceTree}
use Rattle.sv_types.specs.declared.frame.Frame.{Frame}
use Rattle.sv_types.specs.declared.statement.Function.{Function}
use Rattle.sv_types.specs.declared.types.SvType.{SvType}
use Rattle.sv_build.specs.Reading.{Reads}
use Rattle.package_scope.specs.declared.table.Declaration.{Declaration}
use Rattle.package_scope.specs.declared.table.Table.{Table}
use Rattle.expr_type.specs.Names.{Called, RoutineText}
use Rattle.expr_type.specs.Placed.{Placed, RoutinesInOrder}
use Rattle.expr_type.specs.Routines.{named_at, routines}
use Rattle.expr_type.specs.Statements.{Kind, continuous, parameters}
use Rattle.expr_type.specs.Types.{typed_text}
use Rattle.expr_type.specs.Typings.{Checked, applied, whole}
use Rattle.expr_type.proofs.Orders.{first-least}
use Rattle.frame_texts.specs.Frames.{context, type_expr, type_function, type_stmt, without_routines, without_signals}
use Rattle.order_laws.specs.Laws.{AscendsIf, TextsAscend}
use Rattle.order_laws.specs.Ordered.{expr_tokens, lvalue_tokens, parameters_tokens, stmt_tokens, type_tokens}
use Rattle.order_laws.proofs.Laws.{keep-order}
use Rattle.order_laws.proofs.Together.{parts}
use Rattle.least_laws.specs.Laws.{FirstIsLeast}
use Rattle.least_laws.specs.Trees.{Somewhere}
use Rattle.least_laws.proofs.Texts.{routine-ascends}

placed-least : {A : Type 0} (i low high : ℕ) (x : Checked A) → Placed i low high x → FirstIsLeast x
placed-least i low high (Ok a) p = tt
placed-least i low high (Err b) p = first-least b i low high p

module _ (tokens : List Token) (tree : SourceTree) (t : Table) (f : Frame) (at : ℕ) (r : Reads tokens tree) where
  -- functions and tasks that a name can find
  text-ascends : (d : Declaration) (o : Option RoutineText) → named_at d.at (routines tree) ≡ o → AscendsIf o
  text-ascends d None e = tt
  text-ascends d (Some x) e = routine-ascends tokens tree d.at x r e

  declared-ascends : (o : Option Declaration) → AscendsIf (elim o [ None ↦ None | Some d ↦ named_at d.at (routines tree) ])
  declared-ascends None = tt
  declared-ascends (Some d) = text-ascends d (named_at d.at (routines tree)) refl

  texts-ascend : TextsAscend (without_signals tree t (without_routines tree t f at))
  texts-ascend n = declared-ascends (slice_get t.declared n)

  in-order : RoutinesInOrder (context tree t f at)
  in-order = (keep-order parts).routines (length t.declared) (without_signals tree t (without_routines tree t f at)) texts-ascend

  pub expr-least : (e : Expr) (want : Option SvType) → Somewhere (expr_tokens e) → FirstIsLeast (type_expr tree t f at e want).result
  expr-least e want s =
      placed-least f.instance s.0 s.1 (type_expr tree t f at e want).result ((keep-order parts).expr e want s.0 s.1 s.2 s.3 (context tree t f at) in-order f.functions)

  pub stmt-least : (x : Stmt) → Somewhere (stmt_tokens x) → FirstIsLeast (type_stmt tree t f at x).result
  stmt-least x s = placed-least f.instance s.0 s.1 (type_stmt tree t f at x).result ((keep-order parts).stmt x s.0 s.1 s.2 s.3 (context tree t f at) in-order f.functions)

  pub type-least : (x : TypeText) → Somewhere (type_tokens x) → FirstIsLeast (typed_text x (context tree t f at) f.functions).result
  type-least x s =
      placed-least f.instance s.0 s.1 (typed_text x (context tree t f at) f.functions).result ((keep-order parts).text x s.0 s.1 s.2 s.3 (context tree t f at) in-order f.functions)

  pub parameters-least : (before : Kind) (bs : List ParameterBody) → Somewhere (parameters_tokens bs) → FirstIsLeast (parameters (context tree t f at) before bs f.functions).result
  parameters-least before bs s =
      placed-least f.instance s.0 s.1 (parameters (context tree t f at) before bs f.functions).result
      ((keep-order parts).parameters before bs s.0 s.1 s.2 s.3 (context tree t f at) in-order f.functions)

  pub assignment-least : (to : Lvalue) (equals : ℕ) (e : Expr) → Somewhere (lvalue_tokens to ++ (equals ∷ expr_tokens e))
      → FirstIsLeast (continuous (context tree t f at) to equals e f.functions).result
  assignment-least to equals e s =
      placed-least f.instance s.0 s.1 (continuous (context tree t f at) to equals e f.functions).result
      ((keep-order parts).assignment to equals e s.0 s.1 s.2 s.3 (context tree t f at) in-order f.functions)

placed-place : (i low high : ℕ) (x : Checked Called) (fs : List Function) → Placed i low high x → FirstIsLeast (applied x (λ (c : Called). whole c.place) fs).result
placed-place i low high (Ok c) fs p = tt
placed-place i low high (Err b) fs p = first-least b i low high p

pub function-least : (tokens : List Token) (tree : SourceTree) (t : Table) (f : Frame) (n : ℕ) → Reads tokens tree → FirstIsLeast (type_function tree t f n).result
function-least tokens tree t f n r =
    let x = (context tree t f 0).routine n f.functions in
    let p = in-order tokens tree t f 0 r n f.functions in
    placed-place p.0 p.1 p.2 x.result x.functions p.3
