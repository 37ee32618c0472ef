-- The tokens of the parameters, variables and formals that are read from a text ascend.
use Rattle.std.proofs.Common.{◌≡◌, ℕ, suc, ◌<◌, ◌≤◌, false, ◌==◌, ◌++◌, drop, arith}
use Rattle.ll_engine.specs.declared.tree.Tree.{Tree}
use Rattle.sv_tree.specs.Heads as head
use Rattle.sv_tree.specs.declared.declarations.ParameterBody.{ParameterBody}
use Rattle.sv_tree.specs.declared.ports.PortText.{PortText}
use Rattle.sv_tree.specs.declared.types.TypeText.{TypeText}
use Rattle.expr_build.specs.Nodes.{kids_of, kid, token, row_of, is_blank}
use Rattle.expr_build.specs.Types.{alone, scoped}
use Rattle.sv_build.specs.declared.rows.TheConstants as R
use Rattle.sv_build.specs.declared.variables.VariableText.{VariableText}
use Rattle.sv_build.specs.Declarations as D
use Rattle.expr_type.specs.Placed.{Ascend}
use Rattle.order_laws.specs.Ordered.{Tokens, type_tokens, declarator_tokens, declarators_tokens, parameter_tokens, parameters_tokens, port_tokens}
use Rattle.least_laws.proofs.Tests.{by-test}
use Rattle.least_laws.proofs.Spans.{Spans}
use Rattle.least_laws.proofs.DeclarationRows as G
use Rattle.least_laws.proofs.Lists as L
use Rattle.least_laws.proofs.Lists.{Ordered, append}
use Rattle.least_laws.proofs.Types.{dims-ordered, initial-ordered, declarator-ordered, declarators-ordered, behind-ordered, keyword-ordered, named-ordered, signed-ordered, dimensioned-ordered, named-dims-ordered, no-type-ordered, bare-ordered, aggregate-ordered}

abbrev pub variables_tokens : VariableText → Tokens
variables_tokens v = type_tokens v.of ++ declarators_tokens v.declarators

module _ (n : ℕ) where
  -- parameters
  value-parameter : (of : TypeText) (t : Tree) (at to lo hi : ℕ) → Ascend lo at (type_tokens of) → Spans head.declarator n at t to → lo ≤ at → to ≤ hi → Ascend lo hi (parameter_tokens (D.value_parameter of t))
  value-parameter of t at to lo hi w s a b = let c = s.rise in append _ _ at a (omega arith) w (declarator-ordered n t at to at hi s (omega arith) b)

  untyped-parameter : (first : ℕ) (t : Tree) (at to lo hi : ℕ) → Spans head.optional_initializer n at t to → lo ≤ first → first < at → to ≤ hi → Ascend lo hi (parameter_tokens (D.untyped_parameter first t))
  untyped-parameter first t at to lo hi s a c b =
      let d = s.rise in
      append _ _ lo (omega arith) (omega arith) (no-type-ordered n lo lo) (a, omega arith, initial-ordered n t at to (suc first) hi s (omega arith) b)

  named-parameter : (first : ℕ) (t : Tree) (at to lo hi : ℕ) → Spans head.parameter_name_rest n at t to → lo ≤ first → first < at → to ≤ hi → Ascend lo hi (parameter_tokens (D.named_parameter_of first t))
  named-parameter first t at to lo hi s a c b =
      by-test (λ (p : ParameterBody). Ascend lo hi (parameter_tokens p)) (row_of t == R.SCOPED_PARAMETER_TYPE) _ _
      (λ e.
      let f = G.scoped-parameter s e in
      let d = f.2.2 in
      let v = d.3 in
      value-parameter _ (kid 3 t) d.0 v.0 lo hi
      (named-ordered n (scoped first (token 0 t) (token 1 t)) (kid 2 t) (suc (suc at)) d.0 lo d.0 (a, omega arith, (omega arith, omega arith, tt)) d.2 (omega arith) (omega arith)) v.2 (omega arith)
      (omega arith))
      (λ e1.
      by-test (λ (p : ParameterBody). Ascend lo hi (parameter_tokens p)) (row_of t == R.PARAMETER_TYPE_DIMENSIONS) _ _
      (λ e.
      let f = G.parameter-dimensions s e in
      let d = f.3 in
      let v = d.3 in
      value-parameter _ (kid 2 t) d.0 v.0 lo hi
      (named-dims-ordered n (alone first) (kid 0 t) (kid 1 t) at f.0 d.0 lo d.0 (a, c, tt) f.2 d.2 (omega arith) (omega arith)) v.2 (omega arith) (omega arith))
      (λ e2.
      by-test (λ (p : ParameterBody). Ascend lo hi (parameter_tokens p)) (row_of t == R.PARAMETER_DECLARATOR) _ _
      (λ e. let f = G.parameter-declarator s e in value-parameter _ (kid 0 t) at f.0 lo hi (bare-ordered n first lo at a c) f.2 (omega arith) (omega arith))
      (λ e. let f = G.untyped-parameter s (e1, (e2, (e, tt))) in untyped-parameter first (kid 0 t) at f.0 lo hi f.2 a c (omega arith))))

  pub parameter-body : Ordered head.parameter_body n parameter_tokens D.parameter_body_of
  parameter-body t at to lo hi s a b =
      by-test (λ (p : ParameterBody). Ascend lo hi (parameter_tokens p)) (row_of t == R.TYPE_PARAMETER) _ _
      (λ e. let f = G.type-parameter s e in (omega arith, omega arith, initial-ordered n (kid 2 t) (suc (suc at)) f.2.2.0 (suc (token 1 t)) hi f.2.2.2 (omega arith) (omega arith)))
      (λ e1.
      by-test (λ (p : ParameterBody). Ascend lo hi (parameter_tokens p)) (row_of t == R.KEYWORD_PARAMETER) _ _
      (λ e.
      let f = G.keyword-parameter s e in
      let d = f.3 in
      let v = d.3 in
      value-parameter _ (kid 2 t) d.0 v.0 lo hi (keyword-ordered n (kid 0 t) (kid 1 t) f.0 d.0 lo d.0 d.2 (omega arith) (omega arith)) v.2 (omega arith) (omega arith))
      (λ e2.
      by-test (λ (p : ParameterBody). Ascend lo hi (parameter_tokens p)) (row_of t == R.SIGNED_PARAMETER) _ _
      (λ e.
      let f = G.signed-parameter s e in
      let d = f.3 in
      let v = d.3 in
      value-parameter _ (kid 2 t) d.0 v.0 lo hi (signed-ordered n (kid 0 t) (kid 1 t) f.0 d.0 lo d.0 d.2 (omega arith) (omega arith)) v.2 (omega arith) (omega arith))
      (λ e3.
      by-test (λ (p : ParameterBody). Ascend lo hi (parameter_tokens p)) (row_of t == R.DIMENSIONED_PARAMETER) _ _
      (λ e.
      let f = G.dimensioned-parameter s e in
      let d = f.3 in
      let v = d.3 in
      value-parameter _ (kid 2 t) d.0 v.0 lo hi (dimensioned-ordered n (kid 0 t) (kid 1 t) at f.0 d.0 lo d.0 f.2 d.2 (omega arith) (omega arith)) v.2 (omega arith) (omega arith))
      (λ e4.
      let f = G.named-parameter s (e1, (e2, (e3, (e4, tt)))) in
      named-parameter (token 0 t) (kid 1 t) (suc at) f.2.0 lo hi f.2.2 (omega arith) (omega arith) (omega arith)))))

  pub parameters-ordered : (t : Tree) (semicolon at to lo hi : ℕ) → Spans head.parameter_declaration n at t to → lo ≤ at → to ≤ hi
      → Ascend lo hi (parameters_tokens (D.parameters_of t semicolon).bodies)
  parameters-ordered t semicolon at to lo hi s a b =
      let f = G.parameters s in
      L.items-if head.parameter_body n parameter_tokens D.parameter_body_of parameter-body head.next_parameter_body (λ x y u r. G.next-body r) (kid 1 t) f.0 f.3.0 lo hi (λ e. G.bodies f.3.2)
      (omega arith) (omega arith)

  -- variables
  pub variables-ordered : (of : TypeText) (names : Tree) (at to lo hi : ℕ) → Ascend lo at (type_tokens of) → Spans head.declarators n at names to → lo ≤ at → to ≤ hi
      → Ascend lo hi (variables_tokens (D.variables_of of names))
  variables-ordered of names at to lo hi w s a b = let c = s.rise in append _ _ at a (omega arith) w (declarators-ordered n names at to at hi s (omega arith) b)

  pub declared-ordered : (name : ℕ) (dims initial : Tree) (at mid from to lo hi : ℕ) → Spans head.dimensions n at dims mid → Spans head.optional_initializer n from initial to
      → mid ≤ from → lo ≤ name → name < at → to ≤ hi → Ascend lo hi (declarator_tokens (D.declared name dims initial))
  declared-ordered name dims initial at mid from to lo hi s r m a c b =
      let d = s.rise in
      let e = r.rise in
      (a, omega arith, append _ _ mid (omega arith) (omega arith) (dims-ordered n dims at mid (suc name) mid s (omega arith) (omega arith)) (initial-ordered n initial from to mid hi r m b))

  variables-from : (first : ℕ) (t : Tree) (at to lo hi : ℕ) → Spans head.variable_name_rest n at t to → (row_of t == R.SCOPED_VARIABLE_TYPE) ≡ false → lo ≤ first → first < at → to ≤ hi
      → Ascend lo hi (variables_tokens (D.variables_from first t))
  variables-from first t at to lo hi s x a c b =
      let f = G.variable-rest s (x, tt) in
      let m = f.3 in
      let i = m.3 in
      let k = L.all-rise head.next_declarator n (drop 3 (kids_of t)) i.0 to i.3 in
      by-test (λ (v : VariableText). Ascend lo hi (variables_tokens v)) (is_blank (kid 1 t)) _ _
      (λ e.
      append {lo = lo} {hi = hi} _ _ lo (omega arith) (omega arith) (no-type-ordered n lo lo)
      (append {lo = lo} {hi = hi} (declarator_tokens (D.declared first (kid 0 t) (kid 2 t))) _ i.0 (omega arith) (omega arith) (declared-ordered first (kid 0 t) (kid 2 t) at f.0 m.0 i.0 lo i.0 f.2 i.2 (omega arith) a c (omega arith))
      (behind-ordered n (drop 3 (kids_of t)) i.0 to i.0 hi i.3 (omega arith) b)))
      (λ e.
      let g = G.some-name m.2 e tt in
      append {lo = lo} {hi = hi} _ _ f.0 (omega arith) (omega arith) (named-ordered n (alone first) (kid 0 t) at f.0 lo f.0 (a, c, tt) f.2 (omega arith) (omega arith))
      (append {lo = f.0} {hi = hi} (declarator_tokens (D.declared (token 0 (kid 1 t)) (kid 1 (kid 1 t)) (kid 2 t))) _ i.0 (omega arith) (omega arith)
      (declared-ordered (token 0 (kid 1 t)) (kid 1 (kid 1 t)) (kid 2 t) (suc f.0) g.2.0 m.0 i.0 f.0 i.0 g.2.2 i.2 (omega arith) (omega arith) (omega arith) (omega arith))
      (behind-ordered n (drop 3 (kids_of t)) i.0 to i.0 hi i.3 (omega arith) b)))

  named-variables : (first : ℕ) (t : Tree) (at to lo hi : ℕ) → Spans head.variable_name_rest n at t to → lo ≤ first → first < at → to ≤ hi
      → Ascend lo hi (variables_tokens (D.named_variables_of first t))
  named-variables first t at to lo hi s a c b =
      by-test (λ (v : VariableText). Ascend lo hi (variables_tokens v)) (row_of t == R.SCOPED_VARIABLE_TYPE) _ _
      (λ e.
      let f = G.scoped-variable s e in
      let d = f.2.2 in
      let v = d.3 in
      variables-ordered _ (kid 3 t) d.0 v.0 lo hi
      (named-ordered n (scoped first (token 0 t) (token 1 t)) (kid 2 t) (suc (suc at)) d.0 lo d.0 (a, omega arith, (omega arith, omega arith, tt)) d.2 (omega arith) (omega arith)) v.2 (omega arith)
      (omega arith))
      (λ e. variables-from first t at to lo hi s e a c b)

  pub variable-text-ordered : Ordered head.variable_type n variables_tokens D.variable_text_of
  variable-text-ordered t at to lo hi s a b =
      by-test (λ (v : VariableText). Ascend lo hi (variables_tokens v)) (row_of t == R.KEYWORD_VARIABLE) _ _
      (λ e.
      let f = G.keyword-variable s e in
      let d = f.3 in
      let v = d.3 in
      variables-ordered _ (kid 2 t) d.0 v.0 lo hi (keyword-ordered n (kid 0 t) (kid 1 t) f.0 d.0 lo d.0 d.2 (omega arith) (omega arith)) v.2 (omega arith) (omega arith))
      (λ e1.
      by-test (λ (v : VariableText). Ascend lo hi (variables_tokens v)) (row_of t == R.AGGREGATE_VARIABLE) _ _
      (λ e.
      let f = G.aggregate-variable s e in
      let d = f.3 in
      let v = d.3 in
      variables-ordered _ (kid 2 t) d.0 v.0 lo hi (aggregate-ordered n (kid 0 t) (kid 1 t) at f.0 d.0 lo d.0 f.2 d.2 (omega arith) (omega arith)) v.2 (omega arith) (omega arith))
      (λ e2.
      by-test (λ (v : VariableText). Ascend lo hi (variables_tokens v)) (row_of t == R.SIGNED_VARIABLE) _ _
      (λ e.
      let f = G.signed-variable s e in
      let d = f.3 in
      let v = d.3 in
      variables-ordered _ (kid 2 t) d.0 v.0 lo hi (signed-ordered n (kid 0 t) (kid 1 t) f.0 d.0 lo d.0 d.2 (omega arith) (omega arith)) v.2 (omega arith) (omega arith))
      (λ e3.
      by-test (λ (v : VariableText). Ascend lo hi (variables_tokens v)) (row_of t == R.DIMENSIONED_VARIABLE) _ _
      (λ e.
      let f = G.dimensioned-variable s e in
      let d = f.3 in
      let v = d.3 in
      variables-ordered _ (kid 2 t) d.0 v.0 lo hi (dimensioned-ordered n (kid 0 t) (kid 1 t) at f.0 d.0 lo d.0 f.2 d.2 (omega arith) (omega arith)) v.2 (omega arith) (omega arith))
      (λ e4.
      let f = G.named-variable s (e1, (e2, (e3, (e4, tt)))) in
      named-variables (token 0 t) (kid 1 t) (suc at) f.2.0 lo hi f.2.2 (omega arith) (omega arith) (omega arith)))))

  -- formals
  typed-port : (of : TypeText) (name : ℕ) (dims : Tree) (mid at to lo hi : ℕ) → Ascend lo mid (type_tokens of) → Spans head.dimensions n at dims to → lo ≤ mid → mid ≤ name → name < at → to ≤ hi
      → Ascend lo hi (port_tokens (D.typed_port of name dims))
  typed-port of name dims mid at to lo hi w s m a c b =
      let d = s.rise in
      append _ _ mid m (omega arith) w (a, omega arith, dims-ordered n dims at to (suc name) hi s (omega arith) b)

  port-from : (first : ℕ) (t : Tree) (at to lo hi : ℕ) → Spans head.port_name_rest n at t to → (row_of t == R.MODPORT_PORT) ≡ false → (row_of t == R.SCOPED_PORT_TYPE) ≡ false → lo ≤ first → first < at
      → to ≤ hi → Ascend lo hi (port_tokens (D.port_from first t))
  port-from first t at to lo hi s x y a c b =
      let f = G.port-rest s (x, (y, tt)) in
      let m = f.3 in
      by-test (λ (p : PortText). Ascend lo hi (port_tokens p)) (is_blank (kid 1 t)) _ _
      (λ e. (a, omega arith, dims-ordered n (kid 0 t) at f.0 (suc first) hi f.2 (omega arith) (omega arith)))
      (λ e.
      let g = G.some-name m.2 e tt in
      typed-port _ (token 0 (kid 1 t)) (kid 1 (kid 1 t)) f.0 (suc f.0) g.2.0 lo hi (named-ordered n (alone first) (kid 0 t) at f.0 lo f.0 (a, c, tt) f.2 (omega arith) (omega arith)) g.2.2 (omega arith)
      (omega arith) (omega arith) (omega arith))

  named-port : (first : ℕ) (t : Tree) (at to lo hi : ℕ) → Spans head.port_name_rest n at t to → lo ≤ first → first < at → to ≤ hi → Ascend lo hi (port_tokens (D.named_port_of first t))
  named-port first t at to lo hi s a c b =
      by-test (λ (p : PortText). Ascend lo hi (port_tokens p)) (row_of t == R.MODPORT_PORT) _ _ (λ e. tt)
      (λ e1.
      by-test (λ (p : PortText). Ascend lo hi (port_tokens p)) (row_of t == R.SCOPED_PORT_TYPE) _ _
      (λ e.
      let f = G.scoped-port s e in
      let d = f.2.2 in
      let v = d.3.2 in
      typed-port _ (token 3 t) (kid 4 t) d.0 (suc d.0) v.0 lo hi
      (named-ordered n (scoped first (token 0 t) (token 1 t)) (kid 2 t) (suc (suc at)) d.0 lo d.0 (a, omega arith, (omega arith, omega arith, tt)) d.2 (omega arith) (omega arith)) v.2 (omega arith)
      (omega arith) (omega arith) (omega arith))
      (λ e2. port-from first t at to lo hi s e1 e2 a c b))

  pub port-ordered : Ordered head.port_type n port_tokens D.port_text_of
  port-ordered t at to lo hi s a b =
      by-test (λ (p : PortText). Ascend lo hi (port_tokens p)) (row_of t == R.KEYWORD_PORT) _ _
      (λ e.
      let f = G.keyword-port s e in
      let d = f.3 in
      let v = d.3.2 in
      typed-port _ (token 2 t) (kid 3 t) d.0 (suc d.0) v.0 lo hi (keyword-ordered n (kid 0 t) (kid 1 t) f.0 d.0 lo d.0 d.2 (omega arith) (omega arith)) v.2 (omega arith) (omega arith) (omega arith)
      (omega arith))
      (λ e1.
      by-test (λ (p : PortText). Ascend lo hi (port_tokens p)) (row_of t == R.SIGNED_PORT) _ _
      (λ e.
      let f = G.signed-port s e in
      let d = f.3 in
      let v = d.3.2 in
      typed-port _ (token 2 t) (kid 3 t) d.0 (suc d.0) v.0 lo hi (signed-ordered n (kid 0 t) (kid 1 t) f.0 d.0 lo d.0 d.2 (omega arith) (omega arith)) v.2 (omega arith) (omega arith) (omega arith)
      (omega arith))
      (λ e2.
      by-test (λ (p : PortText). Ascend lo hi (port_tokens p)) (row_of t == R.DIMENSIONED_PORT) _ _
      (λ e.
      let f = G.dimensioned-port s e in
      let d = f.3 in
      let v = d.3.2 in
      typed-port _ (token 2 t) (kid 3 t) d.0 (suc d.0) v.0 lo hi (dimensioned-ordered n (kid 0 t) (kid 1 t) at f.0 d.0 lo d.0 f.2 d.2 (omega arith) (omega arith)) v.2 (omega arith) (omega arith)
      (omega arith) (omega arith))
      (λ e3.
      let f = G.named-port s (e1, (e2, (e3, tt))) in
      named-port (token 0 t) (kid 1 t) (suc at) f.2.0 lo hi f.2.2 (omega arith) (omega arith) (omega arith))))
