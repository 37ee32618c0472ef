-- The tokens of the functions and tasks that are read from a text ascend.
use Rattle.std.proofs.Common.{◌≡◌, ℕ, suc, ◌<◌, ◌≤◌, false, ◌==◌, List, ◌∷◌, ◌++◌, Option, Some, None, arith}
use Rattle.ll_engine.specs.declared.tree.Tree.{Tree}
use Rattle.sv_tree.specs.Heads as head
use Rattle.sv_tree.specs.declared.functions.FormalList.{FormalList}
use Rattle.sv_tree.specs.declared.types.TypeText.{TypeText}
use Rattle.expr_build.specs.Nodes.{kid, token, row_of, is_blank}
use Rattle.expr_build.specs.Types.{alone, scoped}
use Rattle.sv_build.specs.declared.functions.FunctionName.{FunctionName}
use Rattle.sv_build.specs.declared.rows.TheConstants as R
use Rattle.sv_build.specs.Items as X
use Rattle.expr_type.specs.Names.{OfFunction, OfTask}
use Rattle.expr_type.specs.Functions as F
use Rattle.expr_type.specs.Placed.{Ascend}
use Rattle.expr_type.proofs.Ordering.{ascend-wider}
use Rattle.order_laws.specs.Ordered.{type_tokens, dims_tokens, formal_tokens, formals_tokens, result_tokens, routine_tokens}
use Rattle.least_laws.proofs.Tests.{by-test}
use Rattle.least_laws.proofs.Spans.{Spans, blank-span}
use Rattle.least_laws.proofs.DeclarationRows as G
use Rattle.least_laws.proofs.Lists as L
use Rattle.least_laws.proofs.Lists.{Ordered, append}
use Rattle.least_laws.proofs.Types.{dims-ordered, keyword-ordered, named-ordered, signed-ordered, dimensioned-ordered, no-type-ordered}
use Rattle.least_laws.proofs.Declarations.{port-ordered}
use Rattle.least_laws.proofs.Statements.{block-items-ordered}

module _ (n : ℕ) where
  -- formals
  formal-ordered : Ordered head.tf_port_item n formal_tokens X.formal_of
  formal-ordered t at to lo hi s a b = let f = G.formal s in port-ordered n (kid 1 t) f.0 f.3.0 lo hi f.3.2 (omega arith) (omega arith)

  pub formals-ordered : (t : Tree) (at to lo hi : ℕ) → Spans head.optional_tf_port_list n at t to → lo ≤ at → to ≤ hi → Ascend lo hi (formals_tokens (F.formals_of (X.formals_of t)))
  formals-ordered t at to lo hi s a b =
      by-test (λ (l : Option FormalList). Ascend lo hi (formals_tokens (F.formals_of l))) (is_blank t) None (Some (X.formals_from t)) (λ e. tt)
      (λ e.
      let f = G.formal-list s e tt in
      L.items-if head.tf_port_item n formal_tokens X.formal_of formal-ordered head.next_tf_port (λ x y u r. G.next-formal r) (kid 1 t) (suc at) f.2.0 lo hi (λ q. G.formals f.2.2 q tt) (omega arith)
      (omega arith))

  -- what a function gives and its name, before what stands behind them
  module _ (rest : List ℕ) where
    abbrev Named : ℕ → ℕ → FunctionName → Type 0
    Named lo hi f = Ascend lo hi (result_tokens f.of ++ (f.name ∷ (dims_tokens f.unpacked ++ rest)))

    typed-name : (of : TypeText) (name mid to lo hi : ℕ) → Ascend lo mid (type_tokens of) → lo ≤ mid → mid ≤ name → name < to → to ≤ hi → Ascend to hi rest → Named lo hi (X.typed_name of name)
    typed-name of name mid to lo hi w a b c d r = append {lo = lo} {hi = hi} _ _ mid a (omega arith) w (b, omega arith, ascend-wider rest to hi (suc name) hi (omega arith) (omega arith) r)

    function-from : (first : ℕ) (t : Tree) (at to lo hi : ℕ) → Spans head.function_name_rest n at t to → (row_of t == R.SCOPED_FUNCTION_TYPE) ≡ false → lo ≤ first → first < at → to ≤ hi → Ascend to hi rest
        → Named lo hi (X.function_from first t)
    function-from first t at to lo hi s x a c b r =
        let f = G.function-rest s (x, tt) in
        let m = f.3 in
        by-test (λ (f : FunctionName). Named lo hi f) (is_blank (kid 1 t)) _ _
        (λ e.
        let k = blank-span e m.2 in
        append {lo = lo} {hi = hi} _ _ lo (omega arith) (omega arith) (no-type-ordered n lo lo)
        (a, omega arith, append {lo = suc first} {hi = hi} _ _ to (omega arith) b (dims-ordered n (kid 0 t) at f.0 (suc first) to f.2 (omega arith) (omega arith)) r))
        (λ e.
        let g = G.function-name m.2 e tt in
        typed-name _ (token 0 (kid 1 t)) f.0 to lo hi (named-ordered n (alone first) (kid 0 t) at f.0 lo f.0 (a, c, tt) f.2 (omega arith) (omega arith)) (omega arith) (omega arith) (omega arith) b r)

    named-function : (first : ℕ) (t : Tree) (at to lo hi : ℕ) → Spans head.function_name_rest n at t to → lo ≤ first → first < at → to ≤ hi → Ascend to hi rest
        → Named lo hi (X.named_function_of first t)
    named-function first t at to lo hi s a c b r =
        by-test (λ (f : FunctionName). Named lo hi f) (row_of t == R.SCOPED_FUNCTION_TYPE) _ _
        (λ e.
        let f = G.scoped-function s e in
        let d = f.2.2 in
        typed-name _ (token 3 t) d.0 to lo hi
        (named-ordered n (scoped first (token 0 t) (token 1 t)) (kid 2 t) (suc (suc at)) d.0 lo d.0 (a, omega arith, (omega arith, omega arith, tt)) d.2 (omega arith) (omega arith)) (omega arith)
        (omega arith) (omega arith) b r)
        (λ e. function-from first t at to lo hi s e a c b r)

    function-name : (t : Tree) (at to lo hi : ℕ) → Spans head.function_type n at t to → lo ≤ at → to ≤ hi → Ascend to hi rest → Named lo hi (X.function_name_of t)
    function-name t at to lo hi s a b r =
        by-test (λ (f : FunctionName). Named lo hi f) (row_of t == R.KEYWORD_FUNCTION) _ _
        (λ e.
        let f = G.keyword-function s e in
        let d = f.3 in
        typed-name _ (token 2 t) d.0 to lo hi (keyword-ordered n (kid 0 t) (kid 1 t) f.0 d.0 lo d.0 d.2 (omega arith) (omega arith)) (omega arith) (omega arith) (omega arith) b r)
        (λ e1.
        by-test (λ (f : FunctionName). Named lo hi f) (row_of t == R.SIGNED_FUNCTION) _ _
        (λ e.
        let f = G.signed-function s e in
        let d = f.3 in
        typed-name _ (token 2 t) d.0 to lo hi (signed-ordered n (kid 0 t) (kid 1 t) f.0 d.0 lo d.0 d.2 (omega arith) (omega arith)) (omega arith) (omega arith) (omega arith) b r)
        (λ e2.
        by-test (λ (f : FunctionName). Named lo hi f) (row_of t == R.DIMENSIONED_FUNCTION) _ _
        (λ e.
        let f = G.dimensioned-function s e in
        let d = f.3 in
        typed-name _ (token 2 t) d.0 to lo hi (dimensioned-ordered n (kid 0 t) (kid 1 t) at f.0 d.0 lo d.0 f.2 d.2 (omega arith) (omega arith)) (omega arith) (omega arith) (omega arith) b r)
        (λ e3.
        by-test (λ (f : FunctionName). Named lo hi f) (row_of t == R.NAMED_FUNCTION) _ _
        (λ e. let f = G.named-function s e in named-function (token 0 t) (kid 1 t) (suc at) to lo hi (L.end-at f.2.3 f.2.2) (omega arith) (omega arith) b r)
        (λ e4.
        let f = G.void-function s (e1, (e2, (e3, (e4, tt)))) in
        (omega arith, omega arith, ascend-wider rest to hi (suc (token 1 t)) hi (omega arith) (omega arith) r)))))

  -- functions and tasks
  pub function-ordered : Ordered head.function_declaration n (λ f. routine_tokens (OfFunction f)) X.function_of
  function-ordered t at to lo hi s a b =
      let f = G.function s in
      let x = f.2.3 in
      let y = x.3 in
      let z = y.3.2 in
      function-name _ (kid 2 t) f.2.0 x.0 lo hi x.2 (omega arith) (omega arith)
      (append {lo = x.0} {hi = hi} _ _ y.0 (omega arith) (omega arith) (formals-ordered (kid 3 t) x.0 y.0 x.0 y.0 y.2 (omega arith) (omega arith))
      (block-items-ordered n (kid 5 t) (suc y.0) z.0 y.0 hi z.2 (omega arith) (omega arith)))

  pub task-ordered : Ordered head.task_declaration n (λ t. routine_tokens (OfTask t)) X.task_of
  task-ordered t at to lo hi s a b =
      let f = G.task s in
      let y = f.2.3.2 in
      let z = y.3.2 in (
        omega arith,
        omega arith,
        append {lo = suc (token 2 t)} {hi = hi} _ _ y.0 (omega arith) (omega arith) (formals-ordered (kid 3 t) (suc f.2.0) y.0 (suc (token 2 t)) y.0 y.2 (omega arith) (omega arith))
            (block-items-ordered n (kid 5 t) (suc y.0) z.0 y.0 hi z.2 (omega arith) (omega arith)),
      )
