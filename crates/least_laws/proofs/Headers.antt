-- The tokens of the type names, headers, variables, assignments, processes and instances that are read from a text ascend.
use Rattle.std.proofs.Common.{◌≡◌, ℕ, suc, ◌<◌, ◌≤◌, true, ◌==◌, map, arith}
use Rattle.ll_engine.specs.declared.tree.Tree.{Tree}
use Rattle.sv_tree.specs.Heads as head
use Rattle.sv_tree.specs.declared.instances.Bind.{Bind}
use Rattle.sv_tree.specs.declared.instances.Connection.{Connection}
use Rattle.sv_tree.specs.declared.items.DataDeclaration.{DataDeclaration}
use Rattle.sv_tree.specs.declared.ports.Port.{Port}
use Rattle.sv_tree.specs.declared.processes.Always.{Always}
use Rattle.expr_build.specs.Nodes.{kids_of, kid, token, row_of, is_blank, separated}
use Rattle.sv_build.specs.declared.rows.TheConstants as R
use Rattle.sv_build.specs.Declarations as D
use Rattle.sv_build.specs.Items as X
use Rattle.expr_type.specs.Placed.{Ascend}
use Rattle.order_laws.specs.Ordered.{in_row}
use Rattle.least_laws.specs.Trees.{typedef_tokens, data_tokens, parameter_port_tokens, parameter_list_tokens, header_port_tokens, port_list_tokens, header_tokens, assignment_tokens, assign_tokens, always_tokens, bind_tokens, connection_tokens, instance_tokens}
use Rattle.least_laws.proofs.Tests.{by-test}
use Rattle.least_laws.proofs.Spans.{Spans}
use Rattle.least_laws.proofs.ItemRows as G
use Rattle.least_laws.proofs.Lists as L
use Rattle.least_laws.proofs.Lists.{Ordered, OrderedIf, append}
use Rattle.least_laws.proofs.Expressions.{expr-ordered}
use Rattle.least_laws.proofs.Types.{dims-ordered, keyword-ordered, aggregate-ordered, type-ordered}
use Rattle.least_laws.proofs.Declarations.{parameter-body, variables-ordered, variable-text-ordered, port-ordered}
use Rattle.least_laws.proofs.Statements.{lvalue-ordered, optional-ordered, stmt-ordered}

module _ (n : ℕ) where
  pub typedef-ordered : Ordered head.type_declaration n typedef_tokens D.typedef_of
  typedef-ordered t at to lo hi s a b =
      let f = G.typedef s in
      let x = f.2 in
      let d = x.3.2 in
      append {lo = lo} {hi = hi} _ _ x.0 (omega arith) (omega arith) (type-ordered n (kid 1 t) (suc at) x.0 lo x.0 x.2 (omega arith) (omega arith))
      (omega arith, omega arith, dims-ordered n (kid 3 t) (suc x.0) d.0 (suc (token 2 t)) hi d.2 (omega arith) (omega arith))

  -- headers
  parameter-port-ordered : Ordered head.parameter_port_declaration n parameter_port_tokens D.parameter_port_of
  unfolding D.parameter_port_of
  parameter-port-ordered t at to lo hi s a b = let f = G.parameter-port s in parameter-body n (kid 1 t) f.0 f.3.0 lo hi f.3.2 (omega arith) (omega arith)

  parameter-list-ordered : OrderedIf head.optional_parameter_port_list n parameter_list_tokens D.parameter_list_from
  parameter-list-ordered t at to lo hi s q a b =
      let f = G.parameter-list s q tt in
      let v = f.2.2 in
      L.items-if head.parameter_port_declaration n parameter_port_tokens D.parameter_port_of parameter-port-ordered head.next_parameter_port (λ x y u r. G.next-parameter-port r) (kid 2 t) (suc (suc at)) v.0
      lo hi (λ e. G.parameter-ports v.2 e tt) (omega arith) (omega arith)

  header-port-ordered : Ordered head.port_declaration n header_port_tokens D.port_of
  unfolding D.port_of
  header-port-ordered t at to lo hi s a b =
      by-test (λ (p : Port). Ascend lo hi (header_port_tokens p)) (row_of t == R.DIRECTED_PORT) _ _
      (λ e. let f = G.directed-port s e in port-ordered n (kid 2 t) f.3.0 f.3.3.0 lo hi f.3.3.2 (omega arith) (omega arith))
      (λ e. let f = G.port s (e, tt) in port-ordered n (kid 0 t) at f.0 lo hi f.2 a (omega arith))

  port-list-ordered : OrderedIf head.optional_port_list n port_list_tokens D.port_list_from
  port-list-ordered t at to lo hi s q a b =
      let f = G.port-list s q tt in
      let v = f.2 in
      L.items-if head.port_declaration n header_port_tokens D.port_of header-port-ordered head.next_port (λ x y u r. G.next-port r) (kid 1 t) (suc at) v.0 lo hi (λ e. G.ports v.2 e tt) (omega arith)
      (omega arith)

  pub header-ordered : Ordered head.header n header_tokens D.header_of
  header-ordered t at to lo hi s a b =
      let f = G.header s in
      let x = f.3.2.3 in
      let y = x.3 in
      append {lo = lo} {hi = hi} _ _ x.0 (omega arith) (omega arith)
      (L.if-read head.optional_parameter_port_list n parameter_list_tokens D.parameter_list_from parameter-list-ordered (kid 3 t) f.3.2.0 x.0 lo x.0 x.2 (omega arith) (omega arith))
      (L.if-read head.optional_port_list n port_list_tokens D.port_list_from port-list-ordered (kid 4 t) x.0 y.0 x.0 hi y.2 (omega arith) (omega arith))

  -- variables and nets
  pub data-ordered : (t : Tree) (semicolon at to lo hi : ℕ) → Spans head.data_declaration n at t to → lo ≤ at → to ≤ hi → Ascend lo hi (data_tokens (D.data_of t semicolon))
  data-ordered t semicolon at to lo hi s a b =
      by-test (λ (d : DataDeclaration). Ascend lo hi (data_tokens d)) (row_of t == R.KEYWORD_DATA) _ _
      (λ e.
      let f = G.keyword-data s e in
      let d = f.3 in
      let v = d.3 in
      variables-ordered n _ (kid 2 t) d.0 v.0 lo hi (keyword-ordered n (kid 0 t) (kid 1 t) f.0 d.0 lo d.0 d.2 (omega arith) (omega arith)) v.2 (omega arith) (omega arith))
      (λ e1.
      by-test (λ (d : DataDeclaration). Ascend lo hi (data_tokens d)) (row_of t == R.AGGREGATE_DATA) _ _
      (λ e.
      let f = G.aggregate-data s e in
      let d = f.3 in
      let v = d.3 in
      variables-ordered n _ (kid 2 t) d.0 v.0 lo hi (aggregate-ordered n (kid 0 t) (kid 1 t) at f.0 d.0 lo d.0 f.2 d.2 (omega arith) (omega arith)) v.2 (omega arith) (omega arith))
      (λ e. let f = G.net-data s (e1, (e, tt)) in variable-text-ordered n (kid 1 t) f.0 f.3.0 lo hi f.3.2 (omega arith) (omega arith)))

  -- continuous assignments and processes
  assignment-ordered : Ordered head.net_assignment n assignment_tokens X.net_assignment_of
  assignment-ordered t at to lo hi s a b =
      let f = G.assignment s in
      let v = f.3.2 in
      append {lo = lo} {hi = hi} _ _ f.0 (omega arith) (omega arith) (lvalue-ordered n (kid 0 t) at f.0 lo f.0 f.2 a (omega arith))
      (omega arith, omega arith, expr-ordered n (kid 2 t) (suc f.0) v.0 (suc (token 1 t)) hi v.2 (omega arith) (omega arith))

  pub assign-ordered : (t : Tree) (at to lo hi : ℕ) → Spans head.module_item n at t to → (row_of t == R.ASSIGN_MODULE_ITEM) ≡ true → lo ≤ at → to ≤ hi → Ascend lo hi (assign_tokens (X.assign_of t))
  assign-ordered t at to lo hi s e a b =
      let f = G.assign-item s e in
      let v = f.2 in
      L.items-if head.net_assignment n assignment_tokens X.net_assignment_of assignment-ordered head.next_net_assignment (λ x y u r. G.next-assignment r) (kid 1 t) (suc at) v.0 lo hi
      (λ q. G.assignments v.2) (omega arith) (omega arith)

  pub always-ordered : Ordered head.always_construct n always_tokens X.always_of
  always-ordered t at to lo hi s a b =
      by-test (λ (x : Always). Ascend lo hi (always_tokens x)) (row_of t == R.ALWAYS_COMB) _ _
      (λ e. let f = G.always-comb s e in stmt-ordered n (kid 1 t) (suc at) f.2.0 lo hi f.2.2 (omega arith) (omega arith))
      (λ e1.
      by-test (λ (x : Always). Ascend lo hi (always_tokens x)) (row_of t == R.ALWAYS_LATCH) _ _
      (λ e. let f = G.always-latch s e in stmt-ordered n (kid 1 t) (suc at) f.2.0 lo hi f.2.2 (omega arith) (omega arith))
      (λ e2.
      by-test (λ (x : Always). Ascend lo hi (always_tokens x)) (row_of t == R.ALWAYS_FF) _ _
      (λ e.
      let f = G.always-ff s e in
      let v = f.2.2.2.3.2 in
      stmt-ordered n (kid 5 t) _ v.0 lo hi v.2 (omega arith) (omega arith))
      (λ e.
      let f = G.always s (e1, (e2, (e, tt))) in
      let v = f.2.2.3 in
      stmt-ordered n (kid 3 t) _ v.0 lo hi v.2 (omega arith) (omega arith))))

  -- instances
  bind-ordered : Ordered head.parameter_assignment n bind_tokens X.bind_of
  bind-ordered t at to lo hi s a b =
      by-test (λ (x : Bind). Ascend lo hi (bind_tokens x)) (row_of t == R.NAMED_BIND) _ _
      (λ e.
      let f = G.named-bind s e in
      let v = f.2.2.2 in
      (omega arith, omega arith, optional-ordered n (kid 3 t) (suc (suc (suc at))) v.0 (suc (token 1 t)) hi v.2 (omega arith) (omega arith)))
      (λ e. let f = G.ordered-bind s (e, tt) in expr-ordered n (kid 0 t) at f.0 lo hi f.2 a (omega arith))

  pub binds-ordered : (t : Tree) (at to lo hi : ℕ) → Spans head.optional_parameter_assignments n at t to → lo ≤ at → to ≤ hi → Ascend lo hi (in_row (map bind_tokens (separated X.bind_of (kids_of t))))
  binds-ordered t at to lo hi s a b =
      L.items-if head.parameter_assignment n bind_tokens X.bind_of bind-ordered head.next_parameter_assignment (λ x y u r. G.next-bind r) t at to lo hi (λ e. G.binds s e tt) a b

  named-connection : (dot name : ℕ) (t : Tree) (at to lo hi : ℕ) → Spans head.optional_connected_expression n at t to → lo ≤ name → name < at → to ≤ hi
      → Ascend lo hi (connection_tokens (X.named_connection dot name t))
  named-connection dot name t at to lo hi s a c b =
      let d = s.rise in
      by-test (λ (x : Connection). Ascend lo hi (connection_tokens x)) (is_blank t) _ _ (λ e. (a, omega arith, tt))
      (λ e. let f = G.connected s e tt in (a, omega arith, optional-ordered n (kid 1 t) (suc at) f.2.0 (suc name) hi f.2.2 (omega arith) (omega arith)))

  connection-ordered : Ordered head.port_connection n connection_tokens X.connection_of
  connection-ordered t at to lo hi s a b =
      by-test (λ (x : Connection). Ascend lo hi (connection_tokens x)) (row_of t == R.NAMED_CONNECTION) _ _
      (λ e. let f = G.named-connection s e in named-connection (token 0 t) (token 1 t) (kid 2 t) (suc (suc at)) f.2.2.0 lo hi f.2.2.2 (omega arith) (omega arith) (omega arith))
      (λ e1.
      by-test (λ (x : Connection). Ascend lo hi (connection_tokens x)) (row_of t == R.ALL_CONNECTION) _ _
      (λ e. let f = G.all-connection s e in (omega arith, omega arith, tt))
      (λ e. let f = G.ordered-connection s (e1, (e, tt)) in expr-ordered n (kid 0 t) at f.0 lo hi f.2 a (omega arith)))

  pub connections-ordered : (t : Tree) (at to lo hi : ℕ) → Spans head.optional_port_connections n at t to → lo ≤ at → to ≤ hi → Ascend lo hi (in_row (map connection_tokens (X.connections_of t)))
  connections-ordered t at to lo hi s a b =
      L.items-if head.port_connection n connection_tokens X.connection_of connection-ordered head.next_port_connection (λ x y u r. G.next-connection r) t at to lo hi (λ e. G.connections s e tt) a b

  pub instance-ordered : Ordered head.hierarchical_instance n instance_tokens X.instance_of
  instance-ordered t at to lo hi s a b =
      let f = G.instance s in
      let v = f.2.2 in
      (omega arith, omega arith, connections-ordered (kid 2 t) (suc (suc at)) v.0 (suc (token 0 t)) hi v.2 (omega arith) (omega arith))
