-- Loops keep the order of the text.
use Rattle.std.proofs.Common.{ℕ, suc, ◌≤◌, ◌<◌, [], ◌∷◌, Option, Some, None, arith}
use Rattle.std.specs.Prelude.{Ok}
use Rattle.sv_tree.specs.declared.expressions.Expr as X
use Rattle.sv_tree.specs.declared.operators.AssignmentOperator.{AssignmentOperator}
use Rattle.sv_tree.specs.declared.operators.StepOperator.{StepOperator}
use Rattle.sv_tree.specs.declared.statements.LoopStart.{LoopStart}
use Rattle.sv_tree.specs.declared.statements.LoopStep.{LoopStep}
use Rattle.sv_tree.specs.declared.statements.LoopStep.TheVariants as L
use Rattle.sv_types.specs.declared.expression.Form.TheVariants as F
use Rattle.sv_types.specs.declared.types.SvType.{SvType}
use Rattle.sv_types.specs.Layouts.{width_of}
use Rattle.expr_type.specs.Breaks.{Quiet}
use Rattle.expr_type.specs.Typings.{both, both_by, broken, checked, rule, where_whole, whole}
use Rattle.expr_type.specs.Names.{Context, LocalId, local_id, with_locals}
use Rattle.expr_type.specs.Operands.{Operand, Plain, Pattern, Stream, no_stream, passed}
use Rattle.expr_type.specs.Operators.{not_too_long}
use Rattle.expr_type.specs.Forms.{cast_expr}
use Rattle.expr_type.specs.Expressions.{operand}
use Rattle.expr_type.specs.Types.{TypeFound, typed_text}
use Rattle.expr_type.specs.Targets.{Target, assigned}
use Rattle.expr_type.specs.Statements.{StmtMeaning, combined, condition, control, first_by, id_of, in_loop, loop_first, loop_step, loop_stmt, loop_target, loop_type, loop_variable, LoopVariable, one, operator_of, step_operator, step_value, turns, widened}
use Rattle.expr_type.specs.Placed.{Ascend, OperandStands, RoutinesInOrder, Stands}
use Rattle.order_laws.specs.Ordered.{expr_tokens, type_tokens, start_tokens, loop_step_tokens}
use Rattle.order_laws.proofs.Tokens.{split}
use Rattle.order_laws.proofs.Typings.{PlacedAs, TypedAs, any-from, any-placed, as-both, as-both-any, as-checked, as-then, as-wider}
use Rattle.order_laws.proofs.Parts.{PartsInOrder}
use Rattle.order_laws.proofs.Targets.{TargetStands, leaf-path}
use Rattle.order_laws.proofs.Given.{passed-stands, without-stream}
use Rattle.order_laws.proofs.Assignments.{assigned-stands, combined-stands, one-stands, target-wider}
use Rattle.order_laws.proofs.Declared.{InText, KeepsOrder, long-in, operand-in, text-in}
use Rattle.order_laws.proofs.Statements.{condition-in}

-- the first value
first-stands : (k : Context) (t : SvType) (o : Operand) (low high : ℕ) → OperandStands k.source.instance low high o → PlacedAs (λ e. Unit {0}) k.source.instance low high (loop_first k t o)
first-stands k t (Plain v) low high s =
    as-then k.source.instance (λ e. Unit {0}) (λ e. Unit {0}) (passed k.source t (Plain v)) (λ e. Ok (cast_expr k.source v.first t (widened k v.first (width_of t) e)).expr) low high
    (passed-stands k.source low high t (Plain v) s) (λ e u. tt)
first-stands k t (Pattern tick of) low high s =
    as-then k.source.instance (λ e. Unit {0}) (λ e. Unit {0}) (of tick t) (λ e. Ok (cast_expr k.source tick t e).expr) low high (any-placed k.source.instance (of tick t) low high (s.2 tick t))
    (λ e u. tt)
first-stands k t (Stream v) low high s = passed-stands k.source low high t (Stream v) s

-- the variable, as a step assigns to it
variable-target : (k : Context) (o : Option LocalId) (name low high : ℕ) → low ≤ name → name < high → TypedAs (TargetStands low high) k.source.instance low high (loop_target k o name)
variable-target k None name low high h m = λ fs. tt
variable-target k (Some id) name low high h m = λ fs. leaf-path k.source name low high id.of (F.Local id.number) h m

value-stands : (k : Context) (at : ℕ) (op : AssignmentOperator) (t : Target) (o : Operand) (low high : ℕ) → low ≤ at → at < high → TargetStands low at t
    → OperandStands k.source.instance (suc at) high o → PlacedAs (λ e. Unit {0}) k.source.instance low high (step_value k at op t o)
value-stands k at op t o low high h m s p =
    as-then k.source.instance (OperandStands k.source.instance (suc at) high) (λ e. Unit {0}) (no_stream k.source o) (λ q. where_whole (combined k at (operator_of op) t q) (assigned k t)) low high
    (as-wider k.source.instance (OperandStands k.source.instance (suc at) high) (OperandStands k.source.instance (suc at) high) (no_stream k.source o) (suc at) high low high (omega arith) (omega arith)
    (λ q r. r) (without-stream k.source (suc at) high o p))
    (λ q r. as-then k.source.instance (OperandStands k.source.instance low high) (λ e. Unit {0}) (combined k at (operator_of op) t q) (assigned k t) low high
    (combined-stands k at (operator_of op) t q low high h m s r)
    (λ v u. assigned-stands k t v low high (target-wider t low at low high (omega arith) (omega arith) s) u))

-- `++` and `--`
counted-step : (k : Context) (o : Option LocalId) (name at : ℕ) (op : StepOperator) (low high : ℕ) → low ≤ name → name < high → low ≤ at → at < high
    → InText k low high (checked (loop_target k o name) (λ t. rule (step_value k at (step_operator op) t (one k at))))
counted-step k o name at op low high h m n l =
    as-checked k.source.instance (TargetStands low high) (λ e. Unit {0}) (loop_target k o name) (λ t. rule (step_value k at (step_operator op) t (one k at))) low high
    (variable-target k o name low high h m)
    (λ t s fs. as-then k.source.instance (OperandStands k.source.instance low high) (λ e. Unit {0}) (combined k at (operator_of (step_operator op)) t (one k at)) (assigned k t) low high
    (one-stands k at op t low high n l s) (λ v u. assigned-stands k t v low high s u))

module _ (parts : PartsInOrder) where
  type-in : (k : Context) (l : LoopStart) (low between high : ℕ) → RoutinesInOrder k → low ≤ between → between ≤ l.name → l.name < high → Ascend low between (type_tokens l.of)
      → InText k low high (loop_type k l)
  type-in k l low between high rs h m n a =
      as-checked k.source.instance (λ f. Unit {0}) (λ f. Unit {0}) (typed_text l.of k) (λ f. rule (not_too_long k.source l.name (width_of f.of) (Ok f))) low high
      (any-from k.source.instance (λ f. Unit {0}) (typed_text l.of k) low between low high (omega arith) (omega arith) (text-in parts k l.of low between rs h a))
      (λ f u fs. long-in k l.name (width_of f.of) low high f (omega arith) n)

  first-in : (k : Context) (l : LoopStart) (o : Option TypeFound) (low high : ℕ) → RoutinesInOrder k → low ≤ high → Ascend low high (expr_tokens l.value) → InText k low high (first_by k l o)
  first-in k l None low high rs h a =
      as-checked k.source.instance (OperandStands k.source.instance low high) (λ e. Unit {0}) (operand k l.value) (λ o. broken Quiet) low high (operand-in parts k l.value low high rs h a) (λ o s fs. tt)
  first-in k l (Some f) low high rs h a =
      as-checked k.source.instance (OperandStands k.source.instance low high) (λ e. Unit {0}) (operand k l.value) (λ o. rule (loop_first k f.of o)) low high
      (operand-in parts k l.value low high rs h a) (λ o s fs. first-stands k f.of o low high s)

  start-in : (l : LoopStart) (low high : ℕ) → low ≤ high → Ascend low high (start_tokens l) → KeepsOrder low high (λ k. loop_variable k l)
  start-in l low high h a k rs =
      let s = split (type_tokens l.of) (l.name ∷ expr_tokens l.value) low high h a in
      let from = s.from in let up = s.behind.0 in let down = s.behind.1 in
      as-both-any k.source.instance (λ f. Unit {0}) (λ e. Unit {0}) (λ v. Unit {0}) (loop_type k l) (first_by k l) (λ f e. whole (record { id = local_id k l.name f.of; first = e }))
      low (suc l.name) high (omega arith) (omega arith) (type-in k l low s.between (suc l.name) rs from up (omega arith) s.before)
      (λ o u. first-in k l o (suc l.name) high rs (omega arith) s.behind.2) (λ f e u v fs. tt)

  step-in : (k : Context) (o : Option LocalId) (step : LoopStep) (low high : ℕ) → RoutinesInOrder k → low ≤ high → Ascend low high (loop_step_tokens step) → InText k low high (loop_step k o step)
  step-in k o (L.Assign name op at e) low high rs h a =
      let named = a.0 in let up = a.2.0 in let down = a.2.1 in
      as-both k.source.instance (TargetStands low at) (OperandStands k.source.instance (suc at) high) (λ e. Unit {0}) (loop_target k o name) (operand k e) (λ t p. rule (step_value k at op t p))
      low (suc at) high (omega arith) (omega arith)
      (λ fs. as-wider k.source.instance (TargetStands low at) (TargetStands low at) (loop_target k o name fs).result low at low (suc at) (omega arith) (omega arith) (λ t s. s)
      (variable-target k o name low at named (omega arith) fs))
      (operand-in parts k e (suc at) high rs (omega arith) a.2.2) (λ t p s q fs. value-stands k at op t p low high (omega arith) (omega arith) s q)
  step-in k o (L.Postfix name op at) low high rs h a =
      let named = a.0 in let up = a.2.0 in let down = a.2.1 in
      counted-step k o name at op low high named (omega arith) (omega arith) (omega arith)
  step-in k o (L.Prefix op at name) low high rs h a =
      let counts = a.0 in let up = a.2.0 in let down = a.2.1 in
      counted-step k o name at op low high (omega arith) down counts (omega arith)

  -- the test, the step and the statement, in which the variable is known
  turns-in : (k : Context) (o : Option LocalId) (test : X.Expr) (step : LoopStep) (body : StmtMeaning) (low stepped inside high : ℕ) → RoutinesInOrder k → low ≤ stepped → stepped ≤ inside → inside ≤ high
      → Ascend low stepped (expr_tokens test) → Ascend stepped inside (loop_step_tokens step) → KeepsOrder inside high body
      → InText k low high (both (both (condition k test) (loop_step k o step) control) (body k) turns)
  turns-in k o test step body low stepped inside high rs h m n a b p =
      as-both k.source.instance (λ c. Unit {0}) (λ s. Unit {0}) (λ t. Unit {0}) (both (condition k test) (loop_step k o step) control) (body k) turns low inside high (omega arith) n
      (as-both k.source.instance (Stands low stepped) (λ e. Unit {0}) (λ c. Unit {0}) (condition k test) (loop_step k o step) control low stepped inside h m
      (condition-in parts k test low stepped rs h a) (step-in k o step stepped inside rs m b) (λ v e s u fs. tt))
      (p k rs) (λ c s u v fs. tt)

  pub loop-in : (at : ℕ) (first : LoopStart) (test : X.Expr) (step : LoopStep) (body : StmtMeaning) (low tested stepped inside high : ℕ) → low ≤ tested → tested ≤ stepped → stepped ≤ inside → inside ≤ high
      → Ascend low tested (start_tokens first) → Ascend tested stepped (expr_tokens test) → Ascend stepped inside (loop_step_tokens step) → KeepsOrder inside high body
      → KeepsOrder low high (λ k.
      both_by (loop_variable k first)
      (λ o. let inner = in_loop k o in
      both (both (condition inner test) (loop_step inner (id_of o) step) control) (body inner) turns)
      (λ v t. whole (loop_stmt k at v t)))
  loop-in at first test step body low tested stepped inside high h m n l a b c p k rs =
      as-both-any k.source.instance (λ v. Unit {0}) (λ t. Unit {0}) (λ s. Unit {0}) (loop_variable k first)
      (λ o. both (both (condition (in_loop k o) test) (loop_step (in_loop k o) (id_of o) step) control) (body (in_loop k o)) turns) (λ v t. whole (loop_stmt k at v t))
      low tested high h (omega arith) (start-in first low tested h a k rs) (λ o u. next o) (λ v t u w fs. tt)
    where
      next : (o : Option LoopVariable) → InText k tested high (both (both (condition (in_loop k o) test) (loop_step (in_loop k o) (id_of o) step) control) (body (in_loop k o)) turns)
      next None = turns-in k None test step body tested stepped inside high rs m n l b c p
      next (Some v) = turns-in (with_locals (v.id ∷ []) k) (Some v.id) test step body tested stepped inside high rs m n l b c p
