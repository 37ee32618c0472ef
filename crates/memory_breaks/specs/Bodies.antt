-- The signals that statements name, marked.
use Rattle.std.specs.Prelude.{ℕ, List, [], ◌∷◌, length, map, Option, Some, None, slice_get}
use Rattle.sv_types.specs.declared.expression.Expr.{Expr}
use Rattle.sv_types.specs.declared.statement.CaseItem.{CaseItem, CaseItem-F, fold-CaseItem}
use Rattle.sv_types.specs.declared.statement.Function.{Function}
use Rattle.sv_types.specs.declared.statement.Local.{Local}
use Rattle.sv_types.specs.declared.statement.Stmt.{Stmt, Stmt-F, fold-Stmt}
use Rattle.memory_breaks.specs.Marks.{Part}
use Rattle.memory_breaks.specs.Names.{walk, in_turn, first, named}

abbrev pub one_by_one : List Part → Part
one_by_one [] u = u
one_by_one (p ∷ ps) u = one_by_one ps (p u)

abbrev pub if_written : Option Part → Part
if_written None u = u
if_written (Some p) u = p u

abbrev pub initial_walk : Local → Part
initial_walk l u = elim l.initial [ None ↦ u | Some e ↦ walk e named u ]

module _ (functions : List Function) where
  abbrev pub formal_count : ℕ → ℕ
  formal_count f = elim (slice_get functions f) [ None ↦ 0 | Some g ↦ length g.formals ]

  abbrev pub called : ℕ → List Expr → Part
  called f es u = first (formal_count f) (map walk es) u

  abbrev pub item_step : CaseItem-F Part Part → Part
  item_step i u = i.body (in_turn (map walk i.values) named u)

  abbrev pub stmt_step : Stmt-F Part Part → Part
  stmt_step (Stmt-F.Block locals body) u = one_by_one body (one_by_one (map initial_walk locals) u)
  stmt_step (Stmt-F.If on body other) u = if_written other (body (walk on named u))
  stmt_step (Stmt-F.Case kind on items other) u = if_written other (one_by_one items (walk on named u))
  stmt_step (Stmt-F.Loop n start test step body spot) u = body (walk step named (walk test named (walk start named u)))
  stmt_step (Stmt-F.Assign to value later spot) u = walk value named (in_turn (map walk to) named u)
  stmt_step (Stmt-F.Call f actuals spot) u = called f actuals u
  stmt_step (Stmt-F.Made locals before body) u = if_written body (one_by_one before (one_by_one (map initial_walk locals) u))
  stmt_step Stmt-F.Break u = u
  stmt_step Stmt-F.Continue u = u
  stmt_step Stmt-F.Return u = u

  abbrev pub stmt_walk : Stmt → Part
  stmt_walk = fold-Stmt Part Part stmt_step item_step

  abbrev pub item_walk : CaseItem → Part
  item_walk = fold-CaseItem Part Part stmt_step item_step

  abbrev pub perhaps : Option Stmt → Option Part
  perhaps None = None
  perhaps (Some s) = Some (stmt_walk s)
