-- What statements assign to.
use Rattle.std.specs.Prelude.{List, [], ◌∷◌, ◌++◌, Option, Some, None, true}
use Rattle.sv_types.specs.declared.expression.Expr.{Expr}
use Rattle.sv_types.specs.declared.statement.CaseItem.{CaseItem-F}
use Rattle.sv_types.specs.declared.statement.Stmt.{Stmt, Stmt-F, fold-Stmt}
use Rattle.path_laws.specs.Targets.{AreTargets}

-- the targets of each assignment, in order
abbrev pub Assigned : Type 0
Assigned = List (List Expr)

abbrev pub together : List Assigned → Assigned
together [] = []
together (a ∷ as') = a ++ together as'

abbrev pub if_there : Option Assigned → Assigned
if_there None = []
if_there (Some a) = a

abbrev pub item_step : CaseItem-F Assigned Assigned → Assigned
item_step i = i.body

abbrev pub stmt_step : Stmt-F Assigned Assigned → Assigned
stmt_step (Stmt-F.Block locals body) = together body
stmt_step (Stmt-F.If on body other) = body ++ if_there other
stmt_step (Stmt-F.Case kind on items other) = together items ++ if_there other
stmt_step (Stmt-F.Loop n first test step body spot) = body
stmt_step (Stmt-F.Assign to value later spot) = to ∷ []
stmt_step (Stmt-F.Call f actuals spot) = []
stmt_step (Stmt-F.Made locals before body) = together before ++ if_there body
stmt_step Stmt-F.Break = []
stmt_step Stmt-F.Continue = []
stmt_step Stmt-F.Return = []

abbrev pub assigned : Stmt → Assigned
assigned = fold-Stmt Assigned Assigned stmt_step item_step

abbrev pub AllTargets : Assigned → Type 0
AllTargets [] = Unit {0}
AllTargets (es ∷ ess) = AreTargets true es × AllTargets ess

-- each assignment in a statement writes typed targets
abbrev pub AssignsTyped : Stmt → Type 0
AssignsTyped s = AllTargets (assigned s)
