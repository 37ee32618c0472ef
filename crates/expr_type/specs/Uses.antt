-- What stands in typed expressions and statements: names of signals and locals, streams, and calls; and which functions hold a
-- stream, by themselves or by functions that they call. What an expression uses is added to what stands before it.
use Rattle.std.specs.Prelude.{ℕ, Bool, true, false, ◌||◌, List, [], ◌∷◌, ◌++◌, map, Option, Some, None, slice_index_or}
use Rattle.std.specs.List.{list_any}
use Rattle.sv_types.specs.declared.expression.Expr.{Expr, Expr-F, fold-Expr}
use Rattle.sv_types.specs.declared.expression.Form.{Form-F}
use Rattle.sv_types.specs.declared.expression.Choice.{Choice, Choice-F, fold-Choice}
use Rattle.sv_types.specs.declared.statement.CaseItem.{CaseItem, CaseItem-F, fold-CaseItem}
use Rattle.sv_types.specs.declared.statement.Function.{Function}
use Rattle.sv_types.specs.declared.statement.Local.{Local}
use Rattle.sv_types.specs.declared.statement.Stmt.{Stmt, Stmt-F, fold-Stmt}
use Rattle.expr_type.specs.declared.uses.Uses.{Uses}

abbrev pub nothing : Uses
nothing = record { names = false; streams = false; calls = [] }

abbrev pub Part : Type 0
Part = Uses → Uses

-- a name, a stream and a call
abbrev pub naming : Part
naming u = record u { names = true }

abbrev pub streaming : Part
streaming u = record u { streams = true }

abbrev pub calling : ℕ → Part
calling f u = record u { calls = u.calls ++ f ∷ [] }

abbrev pub in_turn : List Part → Part
in_turn [] u = u
in_turn (p ∷ ps) u = in_turn ps (p u)

abbrev pub choice_step : Choice-F Part Part Part → Part
choice_step (Choice-F.Value e) u = e u
choice_step (Choice-F.Range low high) u = high (low u)

abbrev pub form_step : Form-F Part Part Part → Part
form_step (Form-F.Literal v goes_on) u = u
form_step (Form-F.Fill b) u = u
form_step (Form-F.Constant v) u = u
form_step (Form-F.Signal n) u = naming u
form_step (Form-F.Local n) u = naming u
form_step (Form-F.Member from m) u = from u
form_step (Form-F.Index from i) u = i (from u)
form_step (Form-F.Part from left right) u = from u
form_step (Form-F.Slide from i n up) u = i (from u)
form_step (Form-F.Unary op e) u = e u
form_step (Form-F.Reduce op e) u = e u
form_step (Form-F.Negate e) u = e u
form_step (Form-F.Binary op l r) u = r (l u)
form_step (Form-F.Shift op l r) u = r (l u)
form_step (Form-F.Power l r) u = r (l u)
form_step (Form-F.Order op l r) u = r (l u)
form_step (Form-F.Equal op negated l r) u = r (l u)
form_step (Form-F.Both l r) u = r (l u)
form_step (Form-F.Either l r) u = r (l u)
form_step (Form-F.Choose on l r) u = r (l (on u))
form_step (Form-F.Concat es) u = in_turn es u
form_step (Form-F.Repeat n es) u = in_turn es u
form_step (Form-F.Inside e cs) u = e (in_turn cs u)
form_step (Form-F.Cast e) u = e u
form_step (Form-F.Clog2 e) u = e u
form_step (Form-F.Pattern es) u = in_turn es u
form_step (Form-F.Call f es) u = in_turn es (calling f u)
form_step (Form-F.Stream reversed n es) u = in_turn es (streaming u)

abbrev pub expr_step : Expr-F Part Part Part → Part
expr_step e = e.form

abbrev pub uses : Expr → Part
uses = fold-Expr Part Part Part choice_step form_step expr_step

abbrev pub choice_uses : Choice → Part
choice_uses = fold-Choice Part Part Part choice_step form_step expr_step

-- whether an expression names a signal or a local
abbrev pub names_any : Expr → Bool
names_any e = (uses e nothing).names

-- statements
abbrev pub if_written : Option Part → Part
if_written None u = u
if_written (Some p) u = p u

abbrev pub initial_uses : Local → Part
initial_uses l u = elim l.initial [ None ↦ u | Some e ↦ uses e u ]

abbrev pub item_step : CaseItem-F Part Part → Part
item_step i u = i.body (in_turn (map uses i.values) u)

abbrev pub stmt_step : Stmt-F Part Part → Part
stmt_step (Stmt-F.Block locals body) u = in_turn body (in_turn (map initial_uses locals) u)
stmt_step (Stmt-F.If on body other) u = if_written other (body (uses on u))
stmt_step (Stmt-F.Case kind on items other) u = if_written other (in_turn items (uses on u))
stmt_step (Stmt-F.Loop n first test step body spot) u = body (uses step (uses test (uses first u)))
stmt_step (Stmt-F.Assign to value later spot) u = uses value (in_turn (map uses to) u)
stmt_step (Stmt-F.Call f actuals spot) u = in_turn (map uses actuals) (calling f u)
stmt_step (Stmt-F.Made locals before body) u = if_written body (in_turn before (in_turn (map initial_uses locals) u))
stmt_step Stmt-F.Break u = u
stmt_step Stmt-F.Continue u = u
stmt_step Stmt-F.Return u = u

abbrev pub stmt_uses : Stmt → Part
stmt_uses = fold-Stmt Part Part stmt_step item_step

abbrev pub item_uses : CaseItem → Part
item_uses = fold-CaseItem Part Part stmt_step item_step

-- Which functions hold a stream: each stands behind those that it calls.
abbrev pub reaches : List Bool → Uses → Bool
reaches marks u = u.streams || list_any (λ n. slice_index_or marks n false) u.calls

abbrev pub mark_of : List Bool → Function → Bool
mark_of marks f = reaches marks (stmt_uses f.body nothing)

abbrev pub marks_behind : List Bool → List Function → List Bool
marks_behind marks [] = marks
marks_behind marks (f ∷ fs) = marks_behind (marks ++ mark_of marks f ∷ []) fs

abbrev pub stream_marks : List Function → List Bool
stream_marks fs = marks_behind [] fs

abbrev pub holds_stream : List Function → Expr → Bool
holds_stream fs e = reaches (stream_marks fs) (uses e nothing)
