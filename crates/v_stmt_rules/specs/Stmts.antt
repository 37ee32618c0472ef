-- What is kept of a statement that begins at a token: of which blocks it declares the names, and the first token that breaks a
-- rule. The names that its scope declares are met in the order of the text.
use Rattle.std.specs.Prelude.{◌≡◌, ℕ, suc, Bool, true, false, not, ◌||◌, List, [], ◌∷◌, ◌++◌, map, max, Option, Some, None, is_some, Result, Ok, Err}
use Rattle.v_tree.specs.Names.{Name}
use Rattle.v_tree.specs.StmtRules.{mark_breaks}
use Rattle.v_tree.specs.declared.items.VItem.{VItem}
use Rattle.v_tree.specs.declared.items.VLocal.{VLocal}
use Rattle.v_tree.specs.declared.statements.VBranch.{VBranch, VBranch-F, fold-VBranch}
use Rattle.v_tree.specs.declared.statements.VCaseItem.{VCaseItem, VCaseItem-F, fold-VCaseItem}
use Rattle.v_tree.specs.declared.statements.VLabel.{VLabel}
use Rattle.v_tree.specs.declared.statements.VStmt.{VStmt, VStmt-F, fold-VStmt}
use Rattle.v_scopes.specs.Env.{Env, given}
use Rattle.v_scopes.specs.declared.entry.Entry.{Entry}
use Rattle.v_scopes.specs.declared.entry.Entry.TheVariants.{Part}
use Rattle.v_block_names.specs.Blocks.{parts_given, locals_given}
use Rattle.v_expr_rules.specs.declared.seen.Seen.{Seen}
use Rattle.v_expr_rules.specs.Seen.{plus, earlier, mark, is_wide, in_context, commas, alone}
use Rattle.v_expr_rules.specs.Walks.{Walk, expr_seen}
use Rattle.v_stmt_rules.specs.declared.cases.CaseSeen.{CaseSeen}
use Rattle.v_stmt_rules.specs.declared.cases.ValuesSeen.{ValuesSeen}
use Rattle.v_stmt_rules.specs.declared.statements.StmtSeen.{StmtSeen}
use Rattle.v_stmt_rules.specs.declared.targets.Procedure.{Procedure}
use Rattle.v_stmt_rules.specs.declared.targets.TargetSeen.{TargetSeen}
use Rattle.v_stmt_rules.specs.Labels.{Adds, in_turn, else_labels}
use Rattle.v_stmt_rules.specs.Targets.{procedure_of, target_seen, assigned}

-- names without anything declared
abbrev pub nothing : Env
nothing = λ name. None

-- the names of a scope that are met so far
abbrev pub meets : Env → Name → Env
meets met name = given met name (Some Part)

pub record Told : Type 0 where
  pub seen : StmtSeen
  pub met : Env

pub record CaseTold : Type 0 where
  pub seen : CaseSeen
  pub met : Env

-- values with commas
abbrev pub no_values : ValuesSeen
no_values = record { size = 0; width = 0; narrow = None; wide = None }

abbrev pub value_added : ValuesSeen → ℕ → Seen → ValuesSeen
value_added v before s = record { size = plus before s.size; width = max v.width s.width; narrow = earlier v.narrow s.narrow; wide = earlier v.wide s.wide }

abbrev pub values_from : List Walk → Env → List VItem → ℕ → ℕ → ValuesSeen → ValuesSeen
values_from [] env items start i v = v
values_from (w ∷ ws) env items start i v =
    values_from ws env items start (suc i) (value_added v (commas i v.size) (w env items (plus start (commas i v.size))))

-- an item of a `case`, and items
abbrev pub case_item : ValuesSeen → StmtSeen → CaseSeen
case_item v b = record { size = plus v.size (plus 1 b.size); width = v.width; narrow = v.narrow; wide = v.wide; first = b.first }

abbrev pub default_item : StmtSeen → CaseSeen
default_item b = record { size = plus 2 b.size; width = 0; narrow = None; wide = None; first = b.first }

abbrev pub no_cases : CaseSeen
no_cases = record { size = 0; width = 0; narrow = None; wide = None; first = None }

abbrev pub case_added : CaseSeen → CaseSeen → CaseSeen
case_added l s = record {
  size = plus l.size s.size;
  width = max l.width s.width;
  narrow = earlier l.narrow s.narrow;
  wide = earlier l.wide s.wide;
  first = earlier l.first s.first;
}

abbrev pub case_values : CaseSeen → Bool → Option ℕ
case_values l true = l.wide
case_values l false = l.narrow

abbrev pub case_seen : Seen → CaseSeen → StmtSeen
case_seen test l =
    let wide = is_wide (max test.width l.width) in
    record { size = plus 4 (plus test.size l.size); first = earlier (in_context test wide) (earlier (case_values l wide) l.first) }

-- variables
abbrev pub range_tokens : Option ℕ → ℕ
range_tokens None = 0
range_tokens (Some left) = 5

abbrev pub local_added : VLocal → ℕ → StmtSeen → Bool → StmtSeen
local_added l at s again = record {
  size = plus s.size (plus 3 (range_tokens l.range));
  first = earlier s.first (mark again (plus at (plus 1 (range_tokens l.range))));
}

abbrev pub no_stmts : StmtSeen
no_stmts = record { size = 0; first = None }

abbrev pub locals_from : List VLocal → ℕ → Told → Told
locals_from [] start t = t
locals_from (l ∷ ls) start t =
    locals_from ls start (record { seen = local_added l (plus start t.seen.size) t.seen (is_some (t.met l.name)); met = meets t.met l.name })

-- statements
abbrev pub stmt_added : StmtSeen → StmtSeen → StmtSeen
stmt_added l s = record { size = plus l.size s.size; first = earlier l.first s.first }

abbrev pub begin_end : StmtSeen → StmtSeen
begin_end l = record { size = plus 2 l.size; first = l.first }

abbrev pub named_block : Option ℕ → StmtSeen → StmtSeen → StmtSeen
named_block name locals body = record { size = plus 4 (plus locals.size body.size); first = earlier name (earlier locals.first body.first) }

abbrev pub if_seen : Seen → StmtSeen → StmtSeen → StmtSeen
if_seen test taken other = record {
  size = plus 3 (plus test.size (plus taken.size other.size));
  first = earlier (alone test) (earlier taken.first other.first);
}

abbrev pub else_seen : StmtSeen → StmtSeen
else_seen s = record { size = plus 1 s.size; first = s.first }

abbrev pub empty_seen : StmtSeen
empty_seen = record { size = 1; first = None }

abbrev pub assign_seen : Procedure → TargetSeen → Seen → Bool → ℕ → StmtSeen
assign_seen p to given later at = record {
  size = plus to.size (plus 2 given.size);
  first =
      earlier to.broken
      (earlier to.by_procedure (earlier (mark (mark_breaks (procedure_of p) later to.has_signal) (plus at to.size)) (assigned to given)));
}

abbrev pub StmtWalk : Type 0
StmtWalk = Procedure → Env → List VItem → ℕ → Env → Told

abbrev pub CaseWalk : Type 0
CaseWalk = Procedure → Env → List VItem → ℕ → Env → CaseTold

pub record StmtTold : Type 0 where
  pub labels : Adds
  pub walk : StmtWalk

pub record ItemTold : Type 0 where
  pub labels : Adds
  pub walk : CaseWalk

abbrev pub stmt_labels : List StmtTold → List Adds
stmt_labels ts = map (λ (t : StmtTold). t.labels) ts

abbrev pub item_labels : List ItemTold → List Adds
item_labels ts = map (λ (t : ItemTold). t.labels) ts

abbrev pub labels_in : Option StmtTold → Option Adds
labels_in None = None
labels_in (Some t) = Some t.labels

-- statements one behind the other
abbrev pub stmts_from : List StmtTold → Procedure → Env → List VItem → ℕ → Told → Told
stmts_from [] p env items start t = t
stmts_from (s ∷ ss) p env items start t =
    let one = s.walk p env items (plus start t.seen.size) t.met in
    stmts_from ss p env items start (record { seen = stmt_added t.seen one.seen; met = one.met })

abbrev pub cases_from : List ItemTold → Procedure → Env → List VItem → ℕ → CaseTold → CaseTold
cases_from [] p env items start t = t
cases_from (s ∷ ss) p env items start t =
    let one = s.walk p env items (plus start t.seen.size) t.met in
    cases_from ss p env items start (record { seen = case_added t.seen one.seen; met = one.met })

abbrev pub begun : Env → Told
begun met = record { seen = no_stmts; met = met }

-- what names stand for in a block
abbrev pub block_given : List VLocal → List Adds → Env → Env
block_given locals stmts env = locals_given locals (parts_given (in_turn stmts []) env)

-- in a named block
abbrev pub block_walk : VLabel → List StmtTold → StmtWalk
block_walk l ss p env items at met =
    let locals = locals_from l.locals (plus at 3) (begun nothing) in
    let body = stmts_from ss p (block_given l.locals (stmt_labels ss) env) items (plus at (plus 3 locals.seen.size)) (begun locals.met) in
    record { seen = named_block (mark (is_some (met l.name)) (plus at 2)) locals.seen body.seen; met = meets met l.name }

abbrev pub plain_walk : List StmtTold → StmtWalk
plain_walk ss p env items at met =
    let body = stmts_from ss p env items (plus at 1) (begun met) in record { seen = begin_end body.seen; met = body.met }

abbrev pub else_walk : Option StmtTold → StmtWalk
else_walk None p env items at met = begun met
else_walk (Some s) p env items at met = let one = s.walk p env items (plus at 1) met in record { seen = else_seen one.seen; met = one.met }

abbrev pub if_walk : Walk → StmtTold → Option StmtTold → StmtWalk
if_walk on taken other p env items at met =
    let test = on env items (plus at 2) in
    let one = taken.walk p env items (plus at (plus 3 test.size)) met in
    let two = else_walk other p env items (plus at (plus 3 (plus test.size one.seen.size))) one.met in
    record { seen = if_seen test one.seen two.seen; met = two.met }

abbrev pub case_walk : Walk → List ItemTold → StmtWalk
case_walk on cs p env items at met =
    let test = on env items (plus at 2) in
    let list = cases_from cs p env items (plus at (plus 3 test.size)) (record { seen = no_cases; met = met }) in
    record { seen = case_seen test list.seen; met = list.met }

abbrev pub assign_walk : (Env → List VItem → ℕ → TargetSeen) → Walk → Bool → StmtWalk
assign_walk target right later p env items at met =
    let to = target env items at in
    record { seen = assign_seen p to (right env items (plus at (plus 1 to.size))) later at; met = met }

abbrev pub item_walk : List Walk → StmtTold → CaseWalk
item_walk values body p env items at met =
    let v = values_from values env items at 0 no_values in
    let one = body.walk p env items (plus at (plus 1 v.size)) met in
    record { seen = case_item v one.seen; met = one.met }

abbrev pub default_walk : StmtTold → CaseWalk
default_walk body p env items at met = let one = body.walk p env items (plus at 2) met in record { seen = default_item one.seen; met = one.met }

abbrev pub branch_step : VBranch-F StmtTold ItemTold StmtTold → StmtTold
branch_step (VBranch-F.Statement s) = s
branch_step VBranch-F.Empty = record { labels = λ to. to; walk = λ p env items at met. record { seen = empty_seen; met = met } }

abbrev pub item_step : VCaseItem-F StmtTold ItemTold StmtTold → ItemTold
item_step (VCaseItem-F.Item values body) = record { labels = body.labels; walk = item_walk (map expr_seen values) body }
item_step (VCaseItem-F.Default body) = record { labels = body.labels; walk = default_walk body }

abbrev pub block_step : Option VLabel → List StmtTold → StmtTold
block_step None ss = record { labels = in_turn (stmt_labels ss); walk = plain_walk ss }
block_step (Some l) ss = record { labels = λ to. to ++ (l.name ∷ []); walk = block_walk l ss }

abbrev pub stmt_step : VStmt-F StmtTold ItemTold StmtTold → StmtTold
stmt_step (VStmt-F.Block label ss) = block_step label ss
stmt_step (VStmt-F.If on taken other) = record { labels = λ to. else_labels (labels_in other) (taken.labels to); walk = if_walk (expr_seen on) taken other }
stmt_step (VStmt-F.Case kind on cs) = record { labels = in_turn (item_labels cs); walk = case_walk (expr_seen on) cs }
stmt_step (VStmt-F.Assign target value later) = record { labels = λ to. to; walk = assign_walk (target_seen target) (expr_seen value) later }

abbrev pub branch_told : VBranch → StmtTold
branch_told = fold-VBranch StmtTold ItemTold StmtTold branch_step item_step stmt_step

abbrev pub item_told : VCaseItem → ItemTold
item_told = fold-VCaseItem StmtTold ItemTold StmtTold branch_step item_step stmt_step

abbrev pub stmt_told : VStmt → StmtTold
stmt_told = fold-VStmt StmtTold ItemTold StmtTold branch_step item_step stmt_step

abbrev pub branch_if : Option VBranch → Option StmtTold
branch_if None = None
branch_if (Some b) = Some (branch_told b)

abbrev pub labels_if : Option VBranch → Option Adds
labels_if other = labels_in (branch_if other)

-- a result and the names met behind it are these
abbrev pub Tells : {E : Type 0} → Result StmtSeen E → Env → Told → Type 0
Tells (Ok s) met t = (s ≡ t.seen) × (met ≡ t.met)
Tells (Err e) met t = Unit {0}

abbrev pub CaseTells : {E : Type 0} → Result CaseSeen E → Env → CaseTold → Type 0
CaseTells (Ok s) met t = (s ≡ t.seen) × (met ≡ t.met)
CaseTells (Err e) met t = Unit {0}
