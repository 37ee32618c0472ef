-- Assignments keep the order of the text: `=`, `op=`, `++` and `--`.
use Rattle.std.proofs.Common.{ℕ, suc, ◌≤◌, ◌<◌, ◌++◌, Bool, true, List, [], ◌∷◌, map, Option, Some, None, sym, subst, arith}
use Rattle.std.specs.Prelude.{nat_lt, Ok}
use Rattle.sv_tree.specs.declared.expressions.Expr as X
use Rattle.sv_tree.specs.declared.expressions.Select.{Select}
use Rattle.sv_tree.specs.declared.operators.AssignmentOperator.{AssignmentOperator}
use Rattle.sv_tree.specs.declared.operators.BinaryOperator.{BinaryOperator}
use Rattle.sv_tree.specs.declared.operators.BinaryOperator.TheVariants as N
use Rattle.sv_tree.specs.declared.operators.StepOperator.{StepOperator}
use Rattle.sv_tree.specs.declared.operators.StepOperator.TheVariants as U
use Rattle.sv_tree.specs.declared.statements.Lvalue.{Lvalue}
use Rattle.sv_types.specs.declared.expression.Expr.{Expr}
use Rattle.sv_types.specs.declared.expression.Form.{Form}
use Rattle.sv_types.specs.declared.expression.Form.TheVariants as F
use Rattle.sv_types.specs.declared.types.SvType.{SvType}
use Rattle.expr_type.specs.Typings.{Checked, both, lesser, refused, rule, where_whole}
use Rattle.expr_type.specs.Shapes.{is_unpacked}
use Rattle.expr_type.specs.Names.{Context, position}
use Rattle.expr_type.specs.declared.operand.Valued.{Valued}
use Rattle.expr_type.specs.Operands.{Operand, Plain, Pattern, Stream, given, is_value, width}
use Rattle.expr_type.specs.Operators.{binary_kind, binary_of, both_type, by_itself, by_kind}
use Rattle.expr_type.specs.Expressions.{operand, select_meaning}
use Rattle.expr_type.specs.TargetNames.{named_target}
use Rattle.expr_type.specs.Targets.{Target, ToPath, ToParts, ToStream, assigned, given_to_parts, has_enough, simple_name, target, whole_of, with_no_enum}
use Rattle.expr_type.specs.Statements.{operator_of, is_later, as_operand, combined, assign, assignment, one, step_operator, counted}
use Rattle.expr_type.specs.Placed.{Ascend, OperandStands, RoutinesInOrder, SelectsInOrder, Stands, StandsIf}
use Rattle.expr_type.proofs.Ordering.{binary-stands, in-context, place}
use Rattle.order_laws.specs.Ordered.{expr_tokens, lvalue_tokens}
use Rattle.order_laws.proofs.Tokens.{split}
use Rattle.order_laws.proofs.Typings.{PlacedAs, as-both, as-checked, as-lesser, as-refused, as-then, as-wider, any-placed}
use Rattle.order_laws.proofs.Parts.{PartsInOrder}
use Rattle.order_laws.proofs.Targets.{IsPath, TargetStands, named-stands, path-wider, target-in-order}
use Rattle.order_laws.proofs.Operands.{as-stands}
use Rattle.order_laws.proofs.Given.{given-stands, operand-wider, value-stands}
use Rattle.order_laws.proofs.Declared.{InText, operand-in}

-- a target as an operand
operand-of : (k : Context) (t : Target) (low high : ℕ) → TargetStands low high t → PlacedAs (IsPath low high) k.source.instance low high (as_operand k t)
operand-of k (ToPath v) low high s = s
operand-of k (ToParts v vs e) low high s = s
operand-of k (ToStream v) low high s = place k.source v.first low high s.0.from s.0.before

-- with what stands behind the operator
pub combined-stands : (k : Context) (at : ℕ) (op : Option BinaryOperator) (t : Target) (o : Operand) (low high : ℕ) → low ≤ at → at < high
    → TargetStands low at t → OperandStands k.source.instance (suc at) high o
    → PlacedAs (OperandStands k.source.instance low high) k.source.instance low high (combined k at op t o)
combined-stands k at None t o low high h m s p = operand-wider k.source.instance o (suc at) high low high (omega arith) (omega arith) p
combined-stands k at (Some op) t o low high h m s p =
    as-then k.source.instance (IsPath low at) (OperandStands k.source.instance low high) (as_operand k t)
    (λ l. where_whole (is_value k.source o) (λ r. where_whole (binary_of op k.source at l r) (λ v. Ok (Plain v)))) low high
    (as-wider k.source.instance (IsPath low at) (IsPath low at) (as_operand k t) low at low high (omega arith) (omega arith) (λ v q. q) (operand-of k t low at s))
    (λ l x. as-then k.source.instance (Stands (suc at) high) (OperandStands k.source.instance low high) (is_value k.source o)
    (λ r. where_whole (binary_of op k.source at l r) (λ v. Ok (Plain v))) low high
    (as-wider k.source.instance (Stands (suc at) high) (Stands (suc at) high) (is_value k.source o) (suc at) high low high (omega arith) (omega arith) (λ v q. q) (value-stands k.source (suc at) high o p))
    (λ r y. as-then k.source.instance (Stands low high) (OperandStands k.source.instance low high) (binary_of op k.source at l r) (λ v. Ok (Plain v)) low high
    (as-stands k.source.instance low high (binary_of op k.source at l r) (binary-stands k.source at low high l r x.0 y op)) (λ v z. z)))

-- `++` and `--`, before what they count or behind it
abbrev by_one : StepOperator → BinaryOperator
by_one U.Increment = N.Add
by_one U.Decrement = N.Subtract

at-alone : (k : Context) (at : ℕ) (l : Valued) (low high : ℕ) → low ≤ at → at < high → IsPath low high l → Ascend low high (l.arithmetic ++ at ∷ [])
at-alone k at l low high h m s = subst (λ (ts : List ℕ). Ascend low high (ts ++ at ∷ [])) (sym s.1) (h, m, tt)

counted-by : (k : Context) (at : ℕ) (op : StepOperator) (l : Valued) (of : SvType) (form : Form) (low high : ℕ) → low ≤ at → at < high → IsPath low high l
    → StandsIf k.source.instance low high (by_kind (binary_kind (by_one op)) k.source at l (by_itself k.source at of form))
counted-by k at U.Increment l of form low high h m s =
    let r = by_itself k.source at of form in
    let inner = s.0.inner in let before = s.0.before in
    in-context k.source l.begins (both_type l r) (F.Binary _ l.expr r.expr) (l.arithmetic ++ at ∷ []) low high s.0.begins (omega arith) (at-alone k at l low high h m s)
counted-by k at U.Decrement l of form low high h m s =
    let r = by_itself k.source at of form in
    let inner = s.0.inner in let before = s.0.before in
    in-context k.source l.begins (both_type l r) (F.Binary _ l.expr r.expr) (l.arithmetic ++ at ∷ []) low high s.0.begins (omega arith) (at-alone k at l low high h m s)

one-by : (k : Context) (at : ℕ) (op : StepOperator) (l : Valued) (of : SvType) (form : Form) (low high : ℕ) → low ≤ at → at < high → IsPath low high l
    → PlacedAs (Stands low high) k.source.instance low high (binary_of (by_one op) k.source at l (by_itself k.source at of form))
one-by k at op l of form low high h m s =
    as-refused k.source.instance (Stands low high) _ (position k.source at) 508 (by_kind (binary_kind (by_one op)) k.source at l (by_itself k.source at of form)) low high (place k.source at low high h m)
    (as-stands k.source.instance low high (by_kind (binary_kind (by_one op)) k.source at l (by_itself k.source at of form)) (counted-by k at op l of form low high h m s))

one-combined : (k : Context) (at : ℕ) (op : StepOperator) (t : Target) (of : SvType) (form : Form) (low high : ℕ) → low ≤ at → at < high → TargetStands low high t
    → PlacedAs (OperandStands k.source.instance low high) k.source.instance low high (combined k at (Some (by_one op)) t (Plain (by_itself k.source at of form)))
one-combined k at op t of form low high h m s =
    as-then k.source.instance (IsPath low high) (OperandStands k.source.instance low high) (as_operand k t)
    (λ l. where_whole (binary_of (by_one op) k.source at l (by_itself k.source at of form)) (λ v. Ok (Plain v))) low high (operand-of k t low high s)
    (λ l x. as-then k.source.instance (Stands low high) (OperandStands k.source.instance low high) (binary_of (by_one op) k.source at l (by_itself k.source at of form)) (λ v. Ok (Plain v)) low high
    (one-by k at op l of form low high h m x) (λ v z. z))

pub one-stands : (k : Context) (at : ℕ) (op : StepOperator) (t : Target) (low high : ℕ) → low ≤ at → at < high → TargetStands low high t
    → PlacedAs (OperandStands k.source.instance low high) k.source.instance low high (combined k at (operator_of (step_operator op)) t (one k at))
one-stands k at U.Increment t low high h m s = one-combined k at U.Increment t _ _ low high h m s
one-stands k at U.Decrement t low high h m s = one-combined k at U.Decrement t _ _ low high h m s

-- what is assigned
no-enum : (k : Context) (e : Bool) (first : ℕ) (x : Checked Expr) (low high : ℕ) → low ≤ first → first < high → PlacedAs (λ e. Unit {0}) k.source.instance low high x
    → PlacedAs (λ e. Unit {0}) k.source.instance low high (with_no_enum k.source e first x)
no-enum k e first x low high h m p =
    as-then k.source.instance (λ q. Unit {0} × Unit {0}) (λ e. Unit {0}) (lesser (refused e (position k.source first) 503 (Ok e)) x) (λ q. Ok q.1) low high
    (as-lesser k.source.instance (λ b. Unit {0}) (λ e. Unit {0}) (refused e (position k.source first) 503 (Ok e)) x low high
    (as-refused k.source.instance (λ b. Unit {0}) e (position k.source first) 503 (Ok e) low high (place k.source first low high h m) tt) p)
    (λ q u. tt)

to-parts : (k : Context) (t : SvType) (e : Bool) (o : Operand) (low high : ℕ) → OperandStands k.source.instance low high o → PlacedAs (λ e. Unit {0}) k.source.instance low high (given_to_parts k.source t e o)
to-parts k t e (Plain u) low high s = no-enum k e u.first (given k.source t (Plain u)) low high s.from s.before (given-stands k.source low high t (Plain u) s)
to-parts k t e (Pattern tick of) low high s = no-enum k e tick (of tick t) low high s.0 s.1 (any-placed k.source.instance (of tick t) low high (s.2 tick t))
to-parts k t e (Stream u) low high s = given-stands k.source low high t (Stream u) s

enough : (k : Context) (v : Valued) (o : Operand) (low high : ℕ) → Stands low high v → OperandStands k.source.instance low high o → PlacedAs (λ e. Unit {0}) k.source.instance low high (has_enough k v o)
enough k v (Plain u) low high p s =
    as-refused k.source.instance (λ e. Unit {0}) (nat_lt (width u) (width v)) (position k.source v.first) 501 _ low high (place k.source v.first low high p.from p.before)
    (as-refused k.source.instance (λ e. Unit {0}) (is_unpacked u.expr.of) (position k.source u.first) 501 (Ok u.expr) low high (place k.source u.first low high s.from s.before) tt)
enough k v (Pattern tick of) low high p s = place k.source tick low high s.0 s.1
enough k v (Stream u) low high p s =
    as-refused k.source.instance (λ e. Unit {0}) (nat_lt (width u) (width v)) (position k.source v.first) 501 (Ok u.expr) low high (place k.source v.first low high p.from p.before) tt

pub assigned-stands : (k : Context) (t : Target) (o : Operand) (low high : ℕ) → TargetStands low high t → OperandStands k.source.instance low high o
    → PlacedAs (λ e. Unit {0}) k.source.instance low high (assigned k t o)
assigned-stands k (ToPath v) o low high p s = given-stands k.source low high v.expr.of o s
assigned-stands k (ToParts v vs e) o low high p s = to-parts k v.expr.of e o low high s
assigned-stands k (ToStream v) o low high p s = enough k v o low high p.0 s

assignment-stands : (k : Context) (at : ℕ) (op : AssignmentOperator) (t : Target) (o : Operand) (low high : ℕ) → TargetStands low high t
    → PlacedAs (OperandStands k.source.instance low high) k.source.instance low high (combined k at (operator_of op) t o)
    → PlacedAs (λ s. Unit {0}) k.source.instance low high (assignment k at op t o)
assignment-stands k at op t o low high p s =
    as-then k.source.instance (OperandStands k.source.instance low high) (λ s. Unit {0}) (combined k at (operator_of op) t o)
    (λ v. where_whole (assigned k t v) (λ e. Ok (assign k at (is_later op) t e))) low high s
    (λ v q. as-then k.source.instance (λ e. Unit {0}) (λ s. Unit {0}) (assigned k t v) (λ e. Ok (assign k at (is_later op) t e)) low high (assigned-stands k t v low high p q) (λ e u. tt))

pub target-wider : (t : Target) (low high low' high' : ℕ) → low' ≤ low → high ≤ high' → TargetStands low high t → TargetStands low' high' t
target-wider t low high low' high' h m s = path-wider (whole_of t) low high low' high' h m s

pub counted-in : (k : Context) (name : ℕ) (op : StepOperator) (at : ℕ) (ss : List Select) (low from to high : ℕ) → RoutinesInOrder k → low ≤ at → at < high
    → low ≤ from → to ≤ high → from ≤ name → SelectsInOrder (suc name) to (map select_meaning ss) → InText k low high (counted k name op at ss)
counted-in k name op at ss low from to high rs h m n l e q =
    as-checked k.source.instance (IsPath low high) (λ s. Unit {0}) (named_target k true (simple_name name) (map select_meaning ss))
    (λ v. rule (assignment k at (step_operator op) (ToPath v) (one k at))) low high
    (λ fs. as-wider k.source.instance (IsPath from to) (IsPath low high) (named_target k true (simple_name name) (map select_meaning ss) fs).result from to low high n l
    (λ v s. path-wider v from to low high n l s) (named-stands k true (simple_name name) (map select_meaning ss) from (suc name) to rs e (omega arith) q fs))
    (λ v s fs. assignment-stands k at (step_operator op) (ToPath v) (one k at) low high s (one-stands k at op (ToPath v) low high h m s))

module _ (parts : PartsInOrder) where
  pub assign-in : (k : Context) (to : Lvalue) (b : Bool) (at : ℕ) (op : AssignmentOperator) (e : X.Expr) (low high : ℕ) → RoutinesInOrder k → low ≤ high
      → Ascend low high (lvalue_tokens to ++ at ∷ expr_tokens e) → InText k low high (both (target to k b) (operand k e) (λ t o. rule (assignment k at op t o)))
  assign-in k to b at op e low high rs h a =
      let s = split (lvalue_tokens to) (at ∷ expr_tokens e) low high h a in
      let from = s.from in let up = s.behind.0 in let down = s.behind.1 in
      as-both k.source.instance (TargetStands low at) (OperandStands k.source.instance (suc at) high) (λ s. Unit {0}) (target to k b) (operand k e) (λ t o. rule (assignment k at op t o))
      low (suc at) high (omega arith) (omega arith)
      (λ fs. as-wider k.source.instance (TargetStands low s.between) (TargetStands low at) (target to k b fs).result low s.between low (suc at) (omega arith) (omega arith)
      (λ t p. target-wider t low s.between low at (omega arith) up p) (target-in-order parts to low s.between from s.before k rs b fs))
      (operand-in parts k e (suc at) high rs (omega arith) s.behind.2)
      (λ t o p q fs. assignment-stands k at op t o low high (target-wider t low at low high (omega arith) (omega arith) p) (combined-stands k at (operator_of op) t o low high (omega arith) (omega arith) p q))
