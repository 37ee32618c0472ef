-- The least tokens of assignments and actuals that some processes or functions may not have.
use Rattle.std.specs.Prelude.{ℕ, Bool, true, false, ◌&&◌, not, cond, List, [], ◌∷◌, map, filter, Option, Some, None, slice_get}
use Rattle.sv_types.specs.declared.design.Design.{Design}
use Rattle.sv_types.specs.declared.design.Process.{Process}
use Rattle.sv_types.specs.declared.expression.Expr.{Expr}
use Rattle.sv_types.specs.declared.statement.Formal.{Formal}
use Rattle.sv_types.specs.declared.statement.Function.{Function}
use Rattle.sv_types.specs.declared.statement.CaseItem.{CaseItem, CaseItem-F, fold-CaseItem}
use Rattle.sv_types.specs.declared.statement.Stmt.{Stmt, Stmt-F, fold-Stmt}
use Rattle.sv_types.specs.declared.statement.Way.{Way}
use Rattle.design_breaks.specs.Actions.{Assignment, Passed, actions, is_out}
use Rattle.design_breaks.specs.Memories.{is_edged}
use Rattle.design_breaks.specs.Breaks as B
use Rattle.least_breaks.specs.Least.{with_token, IsLeastToken}
use Rattle.action_breaks.specs.declared.bases.Bases.{Bases}
use Rattle.action_breaks.specs.declared.misuse.Misuse.{Misuse}
use Rattle.action_breaks.specs.declared.rules.Wrong.{Wrong}
use Rattle.action_breaks.specs.Bases.{bases_of, target_bases}

abbrev pub with_token_if : Bool → Option ℕ → ℕ → Option ℕ
with_token_if counts least at = cond counts (with_token least at) least

abbrev pub Part : Type 0
Part = Misuse → Misuse

abbrev pub assigned : Bases → Bool → ℕ → Part
assigned b true at m = record { blocking = m.blocking; passed = m.passed; later = with_token m.later at; local_later = with_token_if b.local m.local_later at }
assigned b false at m = record { blocking = with_token_if b.signal m.blocking at; passed = m.passed; later = m.later; local_later = m.local_later }

abbrev pub passed : Way → Expr → Part
passed w e m = record { blocking = m.blocking; passed = with_token_if (is_out w && (target_bases e).signal) m.passed e.spot.at; later = m.later; local_later = m.local_later }

abbrev pub all_passed : List Formal → List Expr → Part
all_passed [] es m = m
all_passed (p ∷ ps) [] m = m
all_passed (p ∷ ps) (e ∷ es) m = all_passed ps es (passed p.way e m)

abbrev pub in_turn : List Part → Part
in_turn [] m = m
in_turn (p ∷ ps) m = in_turn ps (p m)

abbrev pub if_written : Option Part → Part
if_written None m = m
if_written (Some p) m = p m

module _ (functions : List Function) where
  abbrev pub called : ℕ → List Expr → Part
  called f es m = elim (slice_get functions f) [ None ↦ m | Some g ↦ all_passed g.formals es m ]

  abbrev pub item_step : CaseItem-F Part Part → Part
  item_step i = i.body

  abbrev pub stmt_step : Stmt-F Part Part → Part
  stmt_step (Stmt-F.Block locals body) m = in_turn body m
  stmt_step (Stmt-F.If on body other) m = if_written other (body m)
  stmt_step (Stmt-F.Case kind on items other) m = if_written other (in_turn items m)
  stmt_step (Stmt-F.Loop n first test step body spot) m = body m
  stmt_step (Stmt-F.Assign to value later spot) m = assigned (bases_of to) later spot.at m
  stmt_step (Stmt-F.Call f actuals spot) m = called f actuals m
  stmt_step (Stmt-F.Made locals before body) m = if_written body (in_turn before m)
  stmt_step Stmt-F.Break m = m
  stmt_step Stmt-F.Continue m = m
  stmt_step Stmt-F.Return m = m

  abbrev pub stmt_walk : Stmt → Part
  stmt_walk = fold-Stmt Part Part stmt_step item_step

  abbrev pub item_walk : CaseItem → Part
  item_walk = fold-CaseItem Part Part stmt_step item_step

  abbrev pub perhaps : Option Stmt → Option Part
  perhaps None = None
  perhaps (Some s) = Some (stmt_walk s)

-- the tokens, as the rules have them
module _ (d : Design) where
  abbrev pub blocking_in : List Assignment → List ℕ
  blocking_in as' = map (λ (a : Assignment). a.at) (filter (λ (a : Assignment). not a.later && B.names_signal d a.to) as')

  abbrev pub passed_in : List Passed → List ℕ
  passed_in ps = map (λ (a : Passed). a.at) (filter (λ (a : Passed). B.names_signal d a.to) ps)

  pub record IsMisuse (s : Stmt) (r : Misuse) : Type 0 where
    pub blocking : IsLeastToken (blocking_in (actions s).assigns) r.blocking
    pub passed : IsLeastToken (passed_in ((actions s).passes (B.formals d))) r.passed
    pub later : IsLeastToken (B.deferred d false s) r.later
    pub local_later : IsLeastToken (B.deferred d true s) r.local_later

  pub record IsWrong (p : Process) (r : Wrong) : Type 0 where
    pub at_once : IsLeastToken (B.at_once d p) r.at_once
    pub deferred : IsLeastToken (B.deferred d (is_edged p.kind) p.body) r.deferred
