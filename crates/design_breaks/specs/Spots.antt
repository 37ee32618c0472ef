-- The tokens of a typed design, and the refusal of its least break.
use Rattle.std.specs.Prelude.{◌≡◌, ⊤, ℕ, ◌==◌, cond, List, [], ◌∷◌, ◌++◌, map, flat_map, Option, Some, None}
use Rattle.row_machine.specs.Valuation.{Member}
use Rattle.sv_source.specs.declared.token.Spot.{Spot}
use Rattle.sv_source.specs.declared.refusal.Refusal.{Refusal}
use Rattle.sv_source.specs.declared.refusal.Fail.{Fail}
use Rattle.sv_source.specs.declared.refusal.Fail.TheVariants.{Memory, Refused}
use Rattle.sv_types.specs.declared.expression.Expr.{Expr, Expr-F, fold-Expr}
use Rattle.sv_types.specs.declared.expression.Form.{Form-F}
use Rattle.sv_types.specs.declared.expression.Choice.{Choice-F}
use Rattle.sv_types.specs.declared.statement.Stmt.{Stmt, Stmt-F, fold-Stmt}
use Rattle.sv_types.specs.declared.statement.CaseItem.{CaseItem-F}
use Rattle.sv_types.specs.declared.statement.Formal.{Formal}
use Rattle.sv_types.specs.declared.statement.Function.{Function}
use Rattle.sv_types.specs.declared.statement.FunctionKind.{FunctionKind}
use Rattle.sv_types.specs.declared.statement.FunctionKind.TheVariants.{Plain, Routine, Made}
use Rattle.sv_types.specs.declared.design.Design.{Design}
use Rattle.sv_types.specs.declared.design.EdgeOn.{EdgeOn}
use Rattle.sv_types.specs.declared.design.Process.{Process}
use Rattle.sv_types.specs.declared.design.ProcessKind.{ProcessKind}
use Rattle.sv_types.specs.declared.design.ProcessKind.TheVariants.{Continuous, Link, Comb, Latch, Star, Edges}
use Rattle.sv_types.specs.declared.design.Signal.{Signal}
use Rattle.design_breaks.specs.declared.Break.{Break}
use Rattle.design_breaks.specs.Unrolling.{starts_of}
use Rattle.design_breaks.specs.Breaks.{breaks, least_of}

abbrev pub Spots : Type 0
Spots = List Spot

abbrev pub all : List Spots → Spots
all xs = flat_map (λ s. s) xs

abbrev pub choice_step : Choice-F Spots Spots Spots → Spots
choice_step (Choice-F.Value e) = e
choice_step (Choice-F.Range low high) = low ++ high

abbrev pub form_step : Form-F Spots Spots Spots → Spots
form_step (Form-F.Literal v goes_on) = []
form_step (Form-F.Fill b) = []
form_step (Form-F.Constant v) = []
form_step (Form-F.Signal n) = []
form_step (Form-F.Local n) = []
form_step (Form-F.Member from k) = from
form_step (Form-F.Index from i) = from ++ i
form_step (Form-F.Part from left right) = from
form_step (Form-F.Slide from i n up) = from ++ i
form_step (Form-F.Unary op e) = e
form_step (Form-F.Reduce op e) = e
form_step (Form-F.Negate e) = e
form_step (Form-F.Binary op l r) = l ++ r
form_step (Form-F.Shift op l r) = l ++ r
form_step (Form-F.Power l r) = l ++ r
form_step (Form-F.Order op l r) = l ++ r
form_step (Form-F.Equal op negated l r) = l ++ r
form_step (Form-F.Both l r) = l ++ r
form_step (Form-F.Either l r) = l ++ r
form_step (Form-F.Choose on l r) = on ++ (l ++ r)
form_step (Form-F.Concat es) = all es
form_step (Form-F.Repeat n es) = all es
form_step (Form-F.Inside e cs) = e ++ all cs
form_step (Form-F.Cast e) = e
form_step (Form-F.Clog2 e) = e
form_step (Form-F.Pattern es) = all es
form_step (Form-F.Call f es) = all es
form_step (Form-F.Stream reversed n es) = all es

abbrev pub expr_step : Expr-F Spots Spots Spots → Spots
expr_step e = e.spot ∷ e.form

abbrev pub expr_spots : Expr → Spots
expr_spots = fold-Expr Spots Spots Spots choice_step form_step expr_step

abbrev pub exprs_spots : List Expr → Spots
exprs_spots es = flat_map expr_spots es

abbrev pub or_none : Option Spots → Spots
or_none None = []
or_none (Some s) = s

abbrev pub item_step : CaseItem-F Spots Spots → Spots
item_step i = exprs_spots i.values ++ i.body

abbrev pub stmt_step : Stmt-F Spots Spots → Spots
stmt_step (Stmt-F.Block locals body) = exprs_spots (starts_of locals) ++ all body
stmt_step (Stmt-F.If on body other) = expr_spots on ++ (body ++ or_none other)
stmt_step (Stmt-F.Case kind on items other) = expr_spots on ++ (all items ++ or_none other)
stmt_step (Stmt-F.Loop n first test step body spot) = spot ∷ (exprs_spots (first ∷ test ∷ step ∷ []) ++ body)
stmt_step (Stmt-F.Assign to value later spot) = spot ∷ exprs_spots (to ++ value ∷ [])
stmt_step (Stmt-F.Call f actuals spot) = spot ∷ exprs_spots actuals
stmt_step (Stmt-F.Made locals before body) = exprs_spots (starts_of locals) ++ (all before ++ or_none body)
stmt_step Stmt-F.Break = []
stmt_step Stmt-F.Continue = []
stmt_step Stmt-F.Return = []

abbrev pub stmt_spots : Stmt → Spots
stmt_spots = fold-Stmt Spots Spots stmt_step item_step

abbrev pub kind_spots : ProcessKind → Spots
kind_spots Continuous = []
kind_spots (Link port) = []
kind_spots Comb = []
kind_spots Latch = []
kind_spots Star = []
kind_spots (Edges es) = map (λ (e : EdgeOn). e.spot) es

abbrev pub process_spots : Process → Spots
process_spots p = p.spot ∷ (kind_spots p.kind ++ stmt_spots p.body)

abbrev pub result_spots : FunctionKind → Spots
result_spots Plain = []
result_spots Routine = []
result_spots (Made spots) = spots

abbrev pub function_spots : Function → Spots
function_spots f = f.spot ∷ (result_spots f.kind ++ (map (λ (p : Formal). p.spot) f.formals ++ stmt_spots f.body))

-- the tokens of processes, functions and signals in the text of an instance
abbrev pub if_here : ℕ → ℕ → Spots → Spots
if_here n instance ss = cond (n == instance) ss []

module _ (d : Design) where
  abbrev pub spots_in : ℕ → Spots
  spots_in n =
      flat_map (λ (p : Process). if_here n p.instance (process_spots p)) d.processes
      ++ (flat_map (λ (f : Function). if_here n f.instance (function_spots f)) d.functions
      ++ flat_map (λ (s : Signal). if_here n s.instance (s.spot ∷ [])) d.signals)

  -- the refusal of a break: the place and the word of its token
  pub record IsRefusalOf (b : Break) (r : Refusal) : Type 0 where
    pub spot : Spot
    pub stands : Member (spots_in b.instance) spot
    pub at : spot.at ≡ b.at
    pub is : r ≡ record { rule = b.rule; place = spot.place; word = spot.word }

  -- the refusal of the least break of the rules on processes
  pub record IsFirstBreak (r : Refusal) : Type 0 where
    pub break : Break
    pub least : least_of (breaks d) ≡ Some break
    pub refuses : IsRefusalOf break r

  abbrev pub RefusesBreak : Fail → Type 0
  RefusesBreak Memory = ⊤
  RefusesBreak (Refused r) = IsFirstBreak r
