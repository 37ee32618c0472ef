-- What is found of statements.
use Rattle.std.specs.Prelude.{⊤, ℕ, Bool, true, false, List, [], ◌∷◌, map, flat_map, Option}
use Rattle.sv_types.specs.declared.expression.Expr.{Expr}
use Rattle.sv_types.specs.declared.statement.CaseItem.{CaseItem}
use Rattle.sv_types.specs.declared.statement.Function.{Function}
use Rattle.sv_types.specs.declared.statement.Local.{Local}
use Rattle.sv_types.specs.declared.statement.Stmt.{Stmt}
use Rattle.sv_types.specs.declared.statement.Way.{Way}
use Rattle.sv_types.specs.Statements.{roots_by_way}
use Rattle.sv_types.specs.Layouts.{layout}
use Rattle.sv_types.specs.Surroundings.{Parameter}
use Rattle.sv_types.specs.Meanings.{Meaning, most}
use Rattle.sv_types.specs.Operators.{assigned_width}
use Rattle.sv_types.specs.Expressions.{meaning}
use Rattle.eval_parts.specs.Limits.{Fits, FitsAlone, AllFit}
use Rattle.eval_runs.specs.EvalStmts.{AllHeld}
use Rattle.eval_runs.specs.EvalStmts.{StmtFits, AllStmtsFit, PerhapsFits, AllItemsFit, LocalFits, AllLocalsFit}
use Rattle.eval_runs.specs.EvalStmts.{AssignFits, CaseFits, AllFitWide, ItemsFitWide}
use Rattle.eval_runs.specs.Functions.{CanRun, EachCanRun}
use Rattle.expr_fits.specs.Results.{own_of}

abbrev pub StmtIf : Bool → Stmt → (ℕ → List Parameter) → (ℕ → Bool) → Type 0
StmtIf true s fs holds = StmtFits s fs holds
StmtIf false s fs holds = ⊤

abbrev pub StmtsIf : Bool → List Stmt → (ℕ → List Parameter) → (ℕ → Bool) → Type 0
StmtsIf true ss fs holds = AllStmtsFit ss fs holds
StmtsIf false ss fs holds = ⊤

abbrev pub PerhapsIf : Bool → Option Stmt → (ℕ → List Parameter) → (ℕ → Bool) → Type 0
PerhapsIf true o fs holds = PerhapsFits o fs holds
PerhapsIf false o fs holds = ⊤

abbrev pub ItemsIf : Bool → List CaseItem → (ℕ → List Parameter) → (ℕ → Bool) → Type 0
ItemsIf true is fs holds = AllItemsFit is fs holds
ItemsIf false is fs holds = ⊤

abbrev pub LocalIf : Bool → Local → (ℕ → List Parameter) → Type 0
LocalIf true l fs = LocalFits l fs
LocalIf false l fs = ⊤

abbrev pub LocalsIf : Bool → List Local → (ℕ → List Parameter) → Type 0
LocalsIf true ls fs = AllLocalsFit ls fs
LocalsIf false ls fs = ⊤

-- the bounds of a loop
pub record Bounds (x y z : Expr) (fs : ℕ → List Parameter) : Type 0 where
  pub first : Fits (meaning x) fs (assigned_width (layout x.of).two_state (meaning x))
  pub test : FitsAlone (meaning y) fs
  pub step : Fits (meaning z) fs (assigned_width (layout x.of).two_state (meaning z))

abbrev pub BoundsIf : Bool → Expr → Expr → Expr → (ℕ → List Parameter) → Type 0
BoundsIf true x y z fs = Bounds x y z fs
BoundsIf false x y z fs = ⊤

abbrev pub HeldIf : Bool → Expr → (ℕ → Bool) → Type 0
HeldIf true e holds = AllHeld (meaning e).roots holds
HeldIf false e holds = ⊤

abbrev pub roots_in : List Expr → List ℕ
roots_in es = flat_map (λ (m : Meaning). m.roots) (map meaning es)

abbrev pub AllHeldIf : Bool → List Expr → (ℕ → Bool) → Type 0
AllHeldIf true es holds = AllHeld (roots_in es) holds
AllHeldIf false es holds = ⊤

abbrev pub EachIf : Bool → List Expr → (ℕ → List Parameter) → Type 0
EachIf true es fs = AllFit es fs
EachIf false es fs = ⊤

abbrev pub AssignIf : Bool → List Expr → Expr → (ℕ → List Parameter) → (ℕ → Bool) → Type 0
AssignIf true to e fs holds = AssignFits to e fs holds
AssignIf false to e fs holds = ⊤

-- what a `case` compares, at the width of the widest
abbrev pub own_widths : List Expr → ℕ
own_widths es = most (map own_of es)

abbrev pub item_widths : List CaseItem → ℕ
item_widths is = most (map (λ (i : CaseItem). own_widths i.values) is)

abbrev pub WideIf : Bool → List Expr → (ℕ → List Parameter) → ℕ → Type 0
WideIf true es fs w = AllFitWide es fs w
WideIf false es fs w = ⊤

abbrev pub ItemsWideIf : Bool → List CaseItem → (ℕ → List Parameter) → ℕ → Type 0
ItemsWideIf true is fs w = ItemsFitWide is fs w
ItemsWideIf false is fs w = ⊤

abbrev pub CaseIf : Bool → Expr → List CaseItem → (ℕ → List Parameter) → Type 0
CaseIf true on is fs = CaseFits on is fs
CaseIf false on is fs = ⊤

-- an actual as it is passed, and handed back to
abbrev pub HandedIf : Bool → Way → Expr → (ℕ → Bool) → Type 0
HandedIf true way e holds = AllHeld (roots_by_way way (meaning e)) holds
HandedIf false way e holds = ⊤

pub record Actual (p : Parameter) (e : Expr) (fs : ℕ → List Parameter) (holds : ℕ → Bool) : Type 0 where
  pub passed : Fits (meaning e) fs (assigned_width p.two_state (meaning e))
  pub held : AllHeld (roots_by_way p.way (meaning e)) holds

abbrev pub ActualIf : Bool → Parameter → Expr → (ℕ → List Parameter) → (ℕ → Bool) → Type 0
ActualIf true p e fs holds = Actual p e fs holds
ActualIf false p e fs holds = ⊤

-- each actual has its formal
abbrev pub AllPassed : List Parameter → List Expr → (ℕ → List Parameter) → (ℕ → Bool) → Type 0
AllPassed ps [] fs holds = ⊤
AllPassed [] (e ∷ es) fs holds = ⊥
AllPassed (p ∷ ps) (e ∷ es) fs holds = Actual p e fs holds × AllPassed ps es fs holds

abbrev pub PassesIf : Bool → List Parameter → List Expr → (ℕ → List Parameter) → (ℕ → Bool) → Type 0
PassesIf true ps es fs holds = AllPassed ps es fs holds
PassesIf false ps es fs holds = ⊤

-- functions
abbrev pub CanRunIf : Bool → Function → (ℕ → List Parameter) → Type 0
CanRunIf true f fs = CanRun f fs
CanRunIf false f fs = ⊤

abbrev pub EachRunsIf : Bool → List Function → (ℕ → List Parameter) → Type 0
EachRunsIf true gs fs = EachCanRun gs fs
EachRunsIf false gs fs = ⊤
