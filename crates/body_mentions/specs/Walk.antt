-- What is mentioned, added to what was mentioned before.
use Rattle.std.specs.Prelude.{ℕ, Bool, true, false, cond, List, [], ◌∷◌, ◌++◌, map, Option, Some, None}
use Rattle.sv_types.specs.declared.expression.Expr.{Expr, Expr-F, fold-Expr}
use Rattle.sv_types.specs.declared.expression.Form.{Form-F}
use Rattle.sv_types.specs.declared.expression.Choice.{Choice, Choice-F, fold-Choice}
use Rattle.sv_types.specs.declared.statement.CaseItem.{CaseItem, CaseItem-F, fold-CaseItem}
use Rattle.sv_types.specs.declared.statement.Local.{Local}
use Rattle.sv_types.specs.declared.statement.Stmt.{Stmt, Stmt-F, fold-Stmt}
use Rattle.body_mentions.specs.declared.Mentioned.{Mentioned}

abbrev pub Part : Type 0
Part = Mentioned → Mentioned

abbrev pub naming : ℕ → Part
naming n u = record u { whole = u.whole ++ n ∷ [] }

abbrev pub calling : ℕ → Part
calling f u = record u { calls = u.calls ++ f ∷ [] }

-- what an expression adds, and whether it is a signal as a whole
pub record Walk : Type 0 where
  pub is_signal : Bool
  pub add : Part

abbrev pub nothing : Walk
nothing = record { is_signal = false; add = λ u. u }

abbrev pub signal : ℕ → Walk
signal n = record { is_signal = true; add = naming n }

abbrev pub within : Walk → Walk
within w = record { is_signal = false; add = w.add }

abbrev pub both : Walk → Walk → Walk
both a b = record { is_signal = false; add = λ u. b.add (a.add u) }

abbrev pub in_turn : List Walk → Part
in_turn [] u = u
in_turn (w ∷ ws) u = in_turn ws (w.add u)

abbrev pub all : List Walk → Walk
all ws = record { is_signal = false; add = in_turn ws }

abbrev pub indexed : Walk → Walk → Walk
indexed from i = record { is_signal = false; add = λ u. i.add (cond from.is_signal u (from.add u)) }

abbrev pub called : ℕ → List Walk → Walk
called f ws = record { is_signal = false; add = λ u. in_turn ws (calling f u) }

abbrev pub choice_step : Choice-F Walk Walk Walk → Walk
choice_step (Choice-F.Value w) = within w
choice_step (Choice-F.Range low high) = both low high

abbrev pub form_step : Form-F Walk Walk Walk → Walk
form_step (Form-F.Literal v goes_on) = nothing
form_step (Form-F.Fill b) = nothing
form_step (Form-F.Constant v) = nothing
form_step (Form-F.Signal n) = signal n
form_step (Form-F.Local n) = nothing
form_step (Form-F.Member from k) = within from
form_step (Form-F.Index from i) = indexed from i
form_step (Form-F.Part from left right) = within from
form_step (Form-F.Slide from i n up) = both from i
form_step (Form-F.Unary op w) = within w
form_step (Form-F.Reduce op w) = within w
form_step (Form-F.Negate w) = within w
form_step (Form-F.Binary op l r) = both l r
form_step (Form-F.Shift op l r) = both l r
form_step (Form-F.Power l r) = both l r
form_step (Form-F.Order op l r) = both l r
form_step (Form-F.Equal op negated l r) = both l r
form_step (Form-F.Both l r) = both l r
form_step (Form-F.Either l r) = both l r
form_step (Form-F.Choose on l r) = both on (both l r)
form_step (Form-F.Concat ws) = all ws
form_step (Form-F.Repeat n ws) = all ws
form_step (Form-F.Inside w cs) = both w (all cs)
form_step (Form-F.Cast w) = within w
form_step (Form-F.Clog2 w) = within w
form_step (Form-F.Pattern ws) = all ws
form_step (Form-F.Call f ws) = called f ws
form_step (Form-F.Stream reversed n ws) = all ws

abbrev pub expr_step : Expr-F Walk Walk Walk → Walk
expr_step e = e.form

abbrev pub walk : Expr → Walk
walk = fold-Expr Walk Walk Walk choice_step form_step expr_step

abbrev pub choice_walk : Choice → Walk
choice_walk = fold-Choice Walk Walk Walk choice_step form_step expr_step

-- statements
abbrev pub one_by_one : List Part → Part
one_by_one [] u = u
one_by_one (p ∷ ps) u = one_by_one ps (p u)

abbrev pub if_written : Option Part → Part
if_written None u = u
if_written (Some p) u = p u

abbrev pub initial_walk : Local → Part
initial_walk l u = elim l.initial [ None ↦ u | Some e ↦ (walk e).add u ]

-- an item of a `case`
pub record Item : Type 0 where
  pub values : Part
  pub body : Part

abbrev pub all_values : List Item → Part
all_values [] u = u
all_values (i ∷ is) u = all_values is (i.values u)

abbrev pub all_bodies : List Item → Part
all_bodies [] u = u
all_bodies (i ∷ is) u = all_bodies is (i.body u)

abbrev pub item_step : CaseItem-F Part Item → Item
item_step i = record { values = in_turn (map walk i.values); body = i.body }

abbrev pub stmt_step : Stmt-F Part Item → Part
stmt_step (Stmt-F.Block locals body) u = one_by_one body (one_by_one (map initial_walk locals) u)
stmt_step (Stmt-F.If on body other) u = if_written other (body ((walk on).add u))
stmt_step (Stmt-F.Case kind on items other) u = if_written other (all_bodies items (all_values items ((walk on).add u)))
stmt_step (Stmt-F.Loop n first test step body spot) u = body ((walk step).add ((walk test).add ((walk first).add u)))
stmt_step (Stmt-F.Assign to value later spot) u = (walk value).add (in_turn (map walk to) u)
stmt_step (Stmt-F.Call f actuals spot) u = in_turn (map walk actuals) (calling f u)
stmt_step (Stmt-F.Made locals before body) u = if_written body (one_by_one before (one_by_one (map initial_walk locals) u))
stmt_step Stmt-F.Break u = u
stmt_step Stmt-F.Continue u = u
stmt_step Stmt-F.Return u = u

abbrev pub stmt_walk : Stmt → Part
stmt_walk = fold-Stmt Part Item stmt_step item_step

abbrev pub item_walk : CaseItem → Item
item_walk = fold-CaseItem Part Item stmt_step item_step
