-- What is found in initial values and processes.
use Rattle.std.specs.Prelude.{ℕ, ◌==◌, Bool, true, false, not, List, [], ◌∷◌, Option, Some, None}
use Rattle.v_tree.specs.Scopes.{bits_of}
use Rattle.v_tree.specs.declared.expressions.VExpr.{VExpr}
use Rattle.v_tree.specs.declared.items.VEdge.{VEdge}
use Rattle.v_tree.specs.declared.items.VItem.{VItem}
use Rattle.v_tree.specs.declared.items.VProcess.{VProcess}
use Rattle.v_tree.specs.declared.items.VProcess.TheVariants.{Assign, Always}
use Rattle.v_tree.specs.declared.items.VSensitivity.{VSensitivity}
use Rattle.v_tree.specs.declared.items.VSensitivity.TheVariants.{Star, Edges}
use Rattle.v_tree.specs.declared.statements.VBranch.{VBranch}
use Rattle.v_tree.specs.declared.statements.VLval.{VLval}
use Rattle.v_scopes.specs.Env.{Env}
use Rattle.v_scopes.specs.declared.entry.Entry.{Entry}
use Rattle.v_scopes.specs.declared.entry.Entry.TheVariants as N
use Rattle.v_scopes.specs.declared.entry.Kind.{Kind}
use Rattle.v_scopes.specs.declared.entry.Kind.TheVariants as K
use Rattle.v_expr_rules.specs.Seen.{plus, earlier, mark}
use Rattle.v_expr_rules.specs.Walks.{expr_seen}
use Rattle.v_stmt_rules.specs.declared.statements.StmtSeen.{StmtSeen}
use Rattle.v_stmt_rules.specs.declared.targets.Procedure.{Procedure}
use Rattle.v_stmt_rules.specs.declared.targets.Procedure.TheVariants.{AtStar, AtEdges}
use Rattle.v_stmt_rules.specs.Targets.{target_seen, assign_first}
use Rattle.v_stmt_rules.specs.Stmts.{Told, branch_told}

abbrev pub variable_first : Kind → Option ℕ → ℕ → ℕ → Option ℕ
variable_first K.Input left bits at = Some (plus at 1)
variable_first K.Net left bits at = Some (plus at 1)
variable_first K.Variable left bits at = mark (not (bits_of left == bits)) (plus at 3)
variable_first K.Local left bits at = Some (plus at 1)

abbrev pub initial_first : Option Entry → ℕ → ℕ → Option ℕ
initial_first None bits at = Some (plus at 1)
initial_first (Some (N.Value kind left)) bits at = variable_first kind left bits at
initial_first (Some (N.Memory left)) bits at = Some (plus at 1)
initial_first (Some (N.Function left item)) bits at = Some (plus at 1)
initial_first (Some (N.Result left item)) bits at = Some (plus at 1)
initial_first (Some N.Part) bits at = Some (plus at 1)

abbrev pub is_one_bit : Option Entry → Bool
is_one_bit None = false
is_one_bit (Some (N.Value kind left)) = bits_of left == 1
is_one_bit (Some (N.Memory left)) = false
is_one_bit (Some (N.Function left item)) = false
is_one_bit (Some (N.Result left item)) = false
is_one_bit (Some N.Part) = false

abbrev pub no_edges : StmtSeen
no_edges = record { size = 0; first = None }

abbrev pub edge_added : StmtSeen → ℕ → Bool → StmtSeen
edge_added es token one_bit = record { size = plus es.size 3; first = earlier es.first (mark (not one_bit) token) }

abbrev pub edges_from : List VEdge → Env → ℕ → StmtSeen → StmtSeen
edges_from [] env start seen = seen
edges_from (e ∷ es) env start seen = edges_from es env start (edge_added seen (plus start seen.size) (is_one_bit (env e.name)))

abbrev pub assign_seen : VLval → VExpr → Env → List VItem → ℕ → StmtSeen
assign_seen target value env items at =
    let to = target_seen target env items (plus at 1) in
    let given = expr_seen value env items (plus at (plus 2 to.size)) in
    record { size = plus 3 (plus to.size given.size); first = assign_first to given }

abbrev pub always_seen : StmtSeen → StmtSeen → StmtSeen
always_seen on body = record { size = plus 2 (plus on.size body.size); first = earlier on.first body.first }

abbrev pub event_seen : VSensitivity → Env → ℕ → StmtSeen × Procedure
event_seen Star env at = (record { size = 1; first = None }, AtStar)
event_seen (Edges edges) env at = let seen = edges_from edges env (plus at 4) no_edges in (record { size = plus 1 seen.size; first = seen.first }, AtEdges)

abbrev pub waiting_told : VSensitivity → VBranch → Env → List VItem → ℕ → Env → Told
waiting_told on body env items at met =
    let event = event_seen on env at in
    let one = (branch_told body).walk event.1 env items (plus at (plus 2 event.0.size)) met in
    record { seen = always_seen event.0 one.seen; met = one.met }

abbrev pub process_told : VProcess → Env → List VItem → ℕ → Env → Told
process_told (Assign target value) env items at met = record { seen = assign_seen target value env items at; met = met }
process_told (Always on body) env items at met = waiting_told on body env items at met
