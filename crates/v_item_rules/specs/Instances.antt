-- What is found in an instance. The ports of a module are given as names that stand for inputs and other nets.
use Rattle.std.specs.Prelude.{ℕ, ◌==◌, Bool, true, false, not, ◌||◌, List, [], ◌∷◌, Option, Some, None, is_some, length, if◌then◌else◌}
use Rattle.v_tree.specs.Scopes.{bits_of}
use Rattle.v_tree.specs.declared.expressions.VExpr.{VExpr}
use Rattle.v_tree.specs.declared.items.VConnection.{VConnection}
use Rattle.v_tree.specs.declared.items.VInstance.{VInstance}
use Rattle.v_tree.specs.declared.items.VItem.{VItem}
use Rattle.v_scopes.specs.Env.{Env}
use Rattle.v_scopes.specs.declared.entry.Entry.{Entry}
use Rattle.v_scopes.specs.declared.entry.Entry.TheVariants as N
use Rattle.v_scopes.specs.declared.entry.Kind.{Kind}
use Rattle.v_scopes.specs.declared.entry.Kind.TheVariants as K
use Rattle.v_expr_rules.specs.declared.seen.Seen.{Seen}
use Rattle.v_expr_rules.specs.Seen.{plus, earlier, mark, alone, in_context, is_wide}
use Rattle.v_expr_rules.specs.Walks.{expr_seen}
use Rattle.v_stmt_rules.specs.declared.statements.StmtSeen.{StmtSeen}
use Rattle.v_stmt_rules.specs.Stmts.{Told, nothing, meets}

abbrev pub driven_first : Seen → ℕ → Option ℕ
driven_first s at = if s.is_target then earlier (alone s) s.driven else earlier (alone s) (Some at)

abbrev pub value_first : Kind → Option ℕ → Seen → ℕ → Option ℕ
value_first K.Input left s at = in_context s (is_wide (bits_of left) || is_wide s.width)
value_first K.Net left s at = driven_first s at
value_first K.Variable left s at = driven_first s at
value_first K.Local left s at = driven_first s at

abbrev pub port_first : Option Entry → Seen → ℕ → Option ℕ
port_first None s at = Some (plus at 1)
port_first (Some (N.Value kind left)) s at = value_first kind left s (plus at 3)
port_first (Some (N.Memory left)) s at = Some (plus at 1)
port_first (Some (N.Function left item)) s at = Some (plus at 1)
port_first (Some (N.Result left item)) s at = Some (plus at 1)
port_first (Some N.Part) s at = Some (plus at 1)

abbrev pub is_port : Option Entry → Bool
is_port None = false
is_port (Some (N.Value kind left)) = true
is_port (Some (N.Memory left)) = false
is_port (Some (N.Function left item)) = false
is_port (Some (N.Result left item)) = false
is_port (Some N.Part) = false

abbrev pub connected : Option Entry → Option VExpr → Env → List VItem → ℕ → StmtSeen
connected port None env items at = record { size = 5; first = mark (not (is_port port)) (plus at 1) }
connected port (Some x) env items at =
    let s = expr_seen x env items (plus at 3) in record { size = plus 5 s.size; first = port_first port s at }

abbrev pub connection_added : StmtSeen → Option ℕ → StmtSeen → StmtSeen
connection_added l again one = record { size = plus l.size one.size; first = earlier l.first (earlier again one.first) }

abbrev pub none_connected : Env → Told
none_connected met = record { seen = record { size = 0; first = None }; met = met }

abbrev pub connections_from : List VConnection → Env → Env → List VItem → ℕ → Told → Told
connections_from [] ports env items start t = t
connections_from (c ∷ cs) ports env items start t =
    let at = plus start t.seen.size in
    connections_from cs ports env items start (record {
      seen = connection_added t.seen (mark (is_some (t.met c.port)) (plus at 1)) (connected (ports c.port) c.value env items at);
      met = meets t.met c.port;
    })

abbrev pub instance_tokens : ℕ → Bool → ℕ
instance_tokens connections true = plus 4 connections
instance_tokens connections false = 5

abbrev pub has_some : List VConnection → Bool
has_some [] = false
has_some (c ∷ cs) = true

abbrev pub instance_seen : VInstance → Env → Env → List VItem → ℕ → StmtSeen
instance_seen i ports env items at =
    let t = connections_from i.connections ports env items (plus at 3) (none_connected nothing) in
    record { size = instance_tokens t.seen.size (has_some i.connections); first = t.seen.first }
