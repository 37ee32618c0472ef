-- Functions and tasks keep the order of their own texts, and so do those that they call, at any depth of calls.
use Rattle.std.proofs.Common.{ℕ, zero, suc, ◌≤◌, ◌<◌, ◌++◌, Bool, true, false, List, [], ◌∷◌, map, Option, Some, None, cond, arith}
use Rattle.sv_tree.specs.declared.expressions.Dimension.{Dimension}
use Rattle.sv_tree.specs.declared.functions.Formal as G
use Rattle.sv_tree.specs.declared.functions.FormalDirection.{FormalDirection}
use Rattle.sv_tree.specs.declared.functions.FunctionResult.{FunctionResult}
use Rattle.sv_tree.specs.declared.functions.FunctionResult.TheVariants as R
use Rattle.sv_tree.specs.declared.ports.PortText.{PortText}
use Rattle.sv_tree.specs.declared.ports.PortText.TheVariants as P
use Rattle.sv_tree.specs.declared.statements.BlockItem.{BlockItem}
use Rattle.sv_types.specs.declared.statement.Function.{Function}
use Rattle.sv_types.specs.declared.statement.FunctionKind.TheVariants as K
use Rattle.sv_types.specs.declared.statement.Way.{Way}
use Rattle.sv_types.specs.Layouts.{width_of}
use Rattle.expr_type.specs.Breaks.{Quiet}
use Rattle.expr_type.specs.Typings.{Typing, broken, checked, rule, whole}
use Rattle.expr_type.specs.Shapes.{one_bit}
use Rattle.expr_type.specs.Names.{Called, Context, Home, RoutineText, OfFunction, OfTask, word}
use Rattle.expr_type.specs.Types.{TypeFound, typed_text, declared_type}
use Rattle.expr_type.specs.Statements.{block, item_meaning}
use Rattle.expr_type.specs.Functions.{way_by, Before, at_first, FormalFound, formal_found, type_if, names_if, typed_formal, type_before, formal_text, before_if, behind_formal, formals, formals_of, behind_formals, ResultFound, function_result, in_body, Head, output_bits, head_of, head, behind_head, function_path, function_of, typed_routine, outside, by_text, known_from, name_of, appended, known_or, routine_text, routine}
use Rattle.expr_type.specs.Placed.{Ascend, Placed, RoutinesInOrder}
use Rattle.order_laws.specs.Laws.{AscendsIf, TextsAscend}
use Rattle.order_laws.specs.Ordered.{dims_tokens, type_tokens, port_tokens, formal_tokens, formals_tokens, result_tokens, items_tokens, routine_tokens}
use Rattle.order_laws.proofs.Tokens.{split}
use Rattle.order_laws.proofs.Typings.{any-from, as-both-any, as-checked}
use Rattle.order_laws.proofs.Operands.{placed-from}
use Rattle.order_laws.proofs.Parts.{PartsInOrder}
use Rattle.order_laws.proofs.Declared.{InText, KeepsOrder, declared-in, long-in, text-in}
use Rattle.order_laws.proofs.Walk.{items-in-order}

-- a context behind formals
behind-formals : {A : Type 0} (f : Context → Typing A) (low high : ℕ) → KeepsOrder low high f → (k : Context) (xs : List FormalFound) → RoutinesInOrder k
    → InText k low high (f (behind_formals k xs))
behind-formals f low high p k [] rs = p k rs
behind-formals f low high p k (x ∷ xs) rs = behind-formals f low high p (behind_formal k (Some x)) xs rs

type-before : (k : Context) (b : Before) (d : Option FormalDirection) (low high : ℕ) → InText k low high (type_before b d)
type-before k b (Some d) low high = λ fs. tt
type-before k b None low high = by b.of
  where
    by : (o : Option TypeFound) → InText k low high (elim o as (λ x. Typing TypeFound) [ None ↦ broken Quiet | Some f ↦ whole f ])
    by None = λ fs. tt
    by (Some f) = λ fs. tt

formals-behind : (k : Context) (way : Way) (d : Option FormalDirection) (gs : List G.Formal) (low high : ℕ) → RoutinesInOrder k
    → ((j : Context) (b : Before) → RoutinesInOrder j → InText j low high (formals j b gs)) → (o : Option FormalFound)
    → InText k low high (formals (behind_formal k o) (before_if way d o) gs)
formals-behind k way d gs low high rs rest None = rest k (record { way = way_by way d; of = None }) rs
formals-behind k way d gs low high rs rest (Some f) = rest (behind_formal k (Some f)) f.before rs

module _ (parts : PartsInOrder) where
  -- a type, with dimensions behind the name
  declared-by : (k : Context) (ds : List Dimension) (low high : ℕ) → RoutinesInOrder k → low ≤ high → Ascend low high (dims_tokens ds) → (o : Option TypeFound)
      → InText k low high (declared_type (names_if k o) (type_if o) ds)
  declared-by k ds low high rs h a None = declared-in parts k None ds low high rs h a
  declared-by k ds low high rs h a (Some f) = declared-in parts (names_if k (Some f)) (Some f.of) ds low high rs h a

  -- formals
  formal-in : (k : Context) (way : Way) (x : Typing TypeFound) (name : ℕ) (ds : List Dimension) (declares : Bool) (low between high : ℕ) → RoutinesInOrder k
      → low ≤ between → between ≤ name → name < high → InText k low between x → Ascend (suc name) high (dims_tokens ds) → InText k low high (typed_formal k way x name ds declares)
  formal-in k way x name ds declares low between high rs h m n p a =
      as-both-any k.source.instance (λ f. Unit {0}) (λ t. Unit {0}) (λ f. Unit {0}) x (λ o. declared_type (names_if k o) (type_if o) ds)
      (λ f t. rule (formal_found k way f name t (cond declares f.names []))) low (suc name) high (omega arith) (omega arith)
      (any-from k.source.instance (λ f. Unit {0}) x low between low (suc name) (omega arith) (omega arith) p)
      (λ o u. declared-by k ds (suc name) high rs (omega arith) a o) (λ f t u v fs. long-in k name (width_of t) low high _ (omega arith) n)

  text-of-formal : (k : Context) (b : Before) (d : Option FormalDirection) (t : PortText) (low high : ℕ) → RoutinesInOrder k → low ≤ high → Ascend low high (port_tokens t)
      → InText k low high (formal_text k b d t)
  text-of-formal k b d (P.Typed of name ds) low high rs h a =
      let s = split (type_tokens of) (name ∷ dims_tokens ds) low high h a in
      let from = s.from in
      formal-in k (way_by b.way d) (typed_text of k) name ds true low s.between high rs from s.behind.0 s.behind.1 (text-in parts k of low s.between rs from s.before) s.behind.2
  text-of-formal k b d (P.Bare name ds) low high rs h a =
      formal-in k (way_by b.way d) (type_before b d) name ds false low low high rs (omega arith) a.0 a.1 (type-before k b d low low) a.2
  text-of-formal k b d (P.Modport of dot modport name) low high rs h a = λ fs. tt

  formals-in : (k : Context) (b : Before) (gs : List G.Formal) (low high : ℕ) → RoutinesInOrder k → low ≤ high → Ascend low high (formals_tokens gs) → InText k low high (formals k b gs)
  formals-in k b [] low high rs h a = λ fs. tt
  formals-in k b (g ∷ gs) low high rs h a =
      let s = split (formal_tokens g) (formals_tokens gs) low high h a in
      as-both-any k.source.instance (λ f. Unit {0}) (λ fs. Unit {0}) (λ fs. Unit {0}) (formal_text k b g.direction g.text) (λ o. formals (behind_formal k o) (before_if b.way g.direction o) gs)
      (λ x xs. whole (x ∷ xs)) low s.between high s.from s.to (text-of-formal k b g.direction g.text low s.between rs s.from s.before)
      (λ o u. formals-behind k b.way g.direction gs s.between high rs (λ j c js. formals-in j c gs s.between high js s.to s.behind) o) (λ x xs u v fs. tt)

  -- what a function gives, with its name behind it
  result-in : (k : Context) (name : ℕ) (ds : List Dimension) (r : FunctionResult) (low between high : ℕ) → RoutinesInOrder k → low ≤ between → between ≤ name → name < high
      → Ascend low between (result_tokens r) → Ascend (suc name) high (dims_tokens ds) → InText k low high (function_result k name ds r)
  result-in k name ds (R.Void keyword) low between high rs h m n a b = λ fs. tt
  result-in k name ds (R.Value of) low between high rs h m n a b =
      as-both-any k.source.instance (λ f. Unit {0}) (λ t. Unit {0}) (λ r. Unit {0}) (typed_text of k) (λ o. declared_type (names_if k o) (type_if o) ds)
      (λ f t. rule _) low (suc name) high (omega arith) (omega arith)
      (any-from k.source.instance (λ f. Unit {0}) (typed_text of k) low between low (suc name) (omega arith) (omega arith) (text-in parts k of low between rs h a))
      (λ o u. declared-by k ds (suc name) high rs (omega arith) b o) (λ f t u v fs. long-in k name (width_of t) low high _ (omega arith) n)

  body-behind : (k : Context) (name : ℕ) (gs : List G.Formal) (low high : ℕ) → RoutinesInOrder k → low ≤ high → Ascend low high (formals_tokens gs) → (o : Option ResultFound)
      → InText k low high (formals (in_body k name o) at_first gs)
  body-behind k name gs low high rs h a None = formals-in k at_first gs low high rs h a
  body-behind k name gs low high rs h a (Some r) = formals-in (in_body k name (Some r)) at_first gs low high rs h a

  head-in : (k : Context) (name : ℕ) (x : Typing ResultFound) (gs : List G.Formal) (low between high : ℕ) → RoutinesInOrder k → low ≤ name → name < between → between ≤ high
      → InText k low between x → Ascend between high (formals_tokens gs) → InText k low high (head k name x gs)
  head-in k name x gs low between high rs h m n p a =
      as-both-any k.source.instance (λ r. Unit {0}) (λ fs. Unit {0}) (λ h. Unit {0}) x (λ o. formals (in_body k name o) at_first gs) (λ r fs. rule (head_of k name r fs)) low between high
      (omega arith) n p (λ o u. body-behind k name gs between high rs n a o)
      (λ r fs u v gs. long-in k name (output_bits fs) low high (record { result = r; formals = fs }) h (omega arith))

  block-behind : (k : Context) (name : ℕ) (items : List BlockItem) (low high : ℕ) → RoutinesInOrder k → low ≤ high → Ascend low high (items_tokens items) → (o : Option Head)
      → InText k low high (block (behind_head k name o) (map item_meaning items))
  block-behind k name items low high rs h a None = items-in-order parts items low high h a k rs
  block-behind k name items low high rs h a (Some x) =
      behind-formals (λ j. block j (map item_meaning items)) low high (items-in-order parts items low high h a) (in_body k name (Some x.result)) x.formals rs

  routine-in : (k : Context) (home : Home) (name : ℕ) (x : Typing ResultFound) (gs : List G.Formal) (items : List BlockItem) (low between high : ℕ) → RoutinesInOrder k
      → low ≤ name → name < between → between ≤ high → InText k low between x → Ascend between high (formals_tokens gs ++ items_tokens items) → InText k low high (typed_routine k home name x gs items)
  routine-in k home name x gs items low between high rs h m n p a =
      let s = split (formals_tokens gs) (items_tokens items) between high n a in
      let from = s.from in
      as-both-any k.source.instance (λ h. Unit {0}) (λ b. Unit {0}) (λ f. Unit {0}) (head k name x gs) (λ o. block (behind_head k name o) (map item_meaning items))
      (λ y body. whole (function_of k home name y body)) low s.between high (omega arith) s.to (head-in k name x gs low between s.between rs h m from p s.before)
      (λ o u. block-behind k name items s.between high rs s.to s.behind o) (λ y body u v fs. tt)

  pub text-in-order : (k : Context) (n : ℕ) (t : RoutineText) (low high : ℕ) → low ≤ high → Ascend low high (routine_tokens t) → RoutinesInOrder k → InText k low high (by_text k n t)
  text-in-order k n (OfFunction f) low high h a rs =
      let s = split (result_tokens f.of) (f.name ∷ (dims_tokens f.unpacked ++ (formals_tokens (formals_of f.formals) ++ items_tokens f.items))) low high h a in
      let from = s.from in let up = s.behind.0 in let down = s.behind.1 in
      let d = split (dims_tokens f.unpacked) (formals_tokens (formals_of f.formals) ++ items_tokens f.items) (suc f.name) high (omega arith) s.behind.2 in
      let after = d.from in
      routine-in (outside k n) (k.home n) f.name (function_result (outside k n) f.name f.unpacked f.of) (formals_of f.formals) f.items low d.between high rs (omega arith) (omega arith) d.to
      (result-in (outside k n) f.name f.unpacked f.of low s.between d.between rs from up (omega arith) s.before d.before) d.behind
  text-in-order k n (OfTask t) low high h a rs =
      let up = a.0 in let down = a.1 in
      routine-in (outside k n) (k.home n) t.name (whole (record { kind = K.Routine; of = one_bit; names = [] })) (formals_of t.formals) t.items low (suc t.name) high rs up (omega arith) (omega arith)
      (λ fs. tt) a.2

  one-routine : (k : Context) (n : ℕ) (o : Option RoutineText) → AscendsIf o → RoutinesInOrder k → (fs : List Function)
      → ((i : ℕ) × (low : ℕ) × (high : ℕ) × Placed i low high (routine_text o k n fs).result)
  one-routine k n None p rs fs = (0, 0, 0, tt)
  one-routine k n (Some t) p rs fs = by (known_from 0 (k.home n).instance (name_of t) (function_path (k.home n) (word k.source (name_of t))) fs)
    where
      by : (c : Option Called) → ((i : ℕ) × (low : ℕ) × (high : ℕ) × Placed i low high (known_or c (checked (by_text k n t) appended) fs).result)
      by (Some c) = (0, 0, 0, tt)
      by None = (
        k.source.instance,
        p.0,
        p.1,
        placed-from k.source.instance p.0 p.1 (λ a. Unit {0}) (checked (by_text k n t) appended)
            (as-checked k.source.instance (λ f. Unit {0}) (λ c. Unit {0}) (by_text k n t) appended p.0 p.1 (text-in-order k n t p.0 p.1 p.2 p.3 rs) (λ f u gs. tt)) fs,
      )

  pub routines-in-order : (depth : ℕ) (k : Context) → TextsAscend k → RoutinesInOrder (record k { routine = routine depth k })
  unfolding routine
  routines-in-order zero k texts n fs = (0, 0, 0, tt)
  routines-in-order (suc depth) k texts n fs = one-routine (record k { routine = routine depth k }) n (k.text n) (texts n) (routines-in-order depth k texts) fs
