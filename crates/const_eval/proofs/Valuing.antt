-- Values, from the bits that were given, and the ends of statements.
use Rattle.std.proofs.Common.{◌≡◌, ℕ, zero, suc, Bool, List, length, Option, Result, Ok, Err, refl, ap, ◌∙◌, subst}
use Rattle.b4_core.specs.declared.bit.Bit4.{Bit4}
use Rattle.sv_types.specs.declared.expression.Expr.{Expr}
use Rattle.sv_types.specs.declared.statement.Function.{Function}
use Rattle.sv_types.specs.declared.statement.Outcome.{Outcome}
use Rattle.sv_types.specs.declared.statement.Outcome.TheVariants.{Normal}
use Rattle.sv_types.specs.declared.statement.Stmt.{Stmt}
use Rattle.row_machine.specs.Valuation.{Valuation}
use Rattle.row_machine.specs.Places.{bits_from, vector_at}
use Rattle.sv_types.specs.Layouts.{layout, width_of}
use Rattle.sv_types.specs.Surroundings.{Around, local_number}
use Rattle.sv_types.specs.Meanings.{wide, signed}
use Rattle.sv_types.specs.Expressions.{meaning}
use Rattle.sv_types.specs.Runs.{current}
use Rattle.sv_types.specs.Functions.{alone_with, begun, callees, callees_within, parameters}
use Rattle.sv_types.specs.Statements.{doing}
use Rattle.sv_types.proofs.Stored.{length-stored}
use Rattle.sv_types.proofs.ValueLengths.{length-value}
use Rattle.eval_parts.specs.declared.halt.Halt.{Halt}
use Rattle.eval_parts.specs.Answers.{Gives}
use Rattle.eval_parts.specs.Steps.{is_held}
use Rattle.eval_parts.specs.Surroundings.{now_of}
use Rattle.eval_parts.proofs.TypeKinds.{wide-is}
use Rattle.eval_exprs.specs.declared.held.Scope.{Scope}
use Rattle.eval_exprs.proofs.Paths.{own-gives}
use Rattle.eval_stmts.specs.declared.env.Env.{Env}
use Rattle.eval_stmts.specs.Stepping.{IsAt, StepGives, step_of}
use Rattle.const_eval.specs.Values.{surroundings, starting, result_of, AloneGives, FunctionGives, StmtRuns}

at-own : (r : Result (List Bit4) Halt) (e : Expr) (fs : List Function) (env : Env) (new : Option ℕ) → Gives r (meaning e) (wide (meaning e)) (signed (meaning e)) (surroundings fs env) env.budget new → AloneGives r e fs env
at-own (Ok v) e fs env new g = (g.0, record { left = new; is = g.1 })
at-own (Err h) e fs env new g = g

-- what an expression gives at its own width and sign
pub alone-gives : (r : Result (List Bit4) Halt) (e : Expr) (fs : List Function) (env : Env) (w : ℕ) (s : Bool) (a : Around) (new : Option ℕ) → w ≡ wide (meaning e) → s ≡ signed (meaning e) → a ≡ surroundings fs env
    → Gives r (meaning e) w s a env.budget new → AloneGives r e fs env
alone-gives r e fs env w s a new width sign same g =
    at-own r e fs env new (own-gives r e w s (surroundings fs env) env.budget new width sign (subst (λ b. Gives r (meaning e) w s b env.budget new) same g))

abbrev by-slots : List Function → List (Option (List Bit4)) → List (Option (List Bit4)) → Around
by-slots fs signals locals = record { now = now_of signals locals; holds = is_held signals; callee = callees fs }

pub same-slots : (fs : List Function) (ss ts ls ms : List (Option (List Bit4))) → ss ≡ ts → ls ≡ ms → by-slots fs ss ls ≡ by-slots fs ts ms
same-slots fs ss ts ls ms signals locals = ap (λ xs. by-slots fs xs ls) signals ∙ ap (by-slots fs ts) locals

-- they are as many as its type has
pub alone-long : (e : Expr) (fs : List Function) (env : Env) (v : List Bit4) → AloneGives (Ok v) e fs env → length v ≡ width_of e.of
alone-long e fs env v g = ap length g.0 ∙ length-value e (wide (meaning e)) (signed (meaning e)) (surroundings fs env) ∙ wide-is e

pub ruleset longs = (alone-long)

-- a statement that starts in an environment
stands-at : (sc : Scope) (env : Env) → sc.depth ≡ length sc.functions.now → IsAt sc env (surroundings sc.functions.now env) (starting env) Normal
stands-at sc env deep =
    let by : ℕ → Around = λ d. record { now = now_of env.signals.items env.locals.items; holds = is_held env.signals.items; callee = callees_within d sc.functions.now } in
    record { now = ap by deep; pending = refl; outcome = refl }

pub stmt-gives : (r : Result Outcome Halt) (sc : Scope) (s : Stmt) (old new : Env) → sc.depth ≡ length sc.functions.now → StepGives r sc (step_of (doing s)) old new → StmtRuns r s sc.functions.now old new
stmt-gives (Ok o) sc s old new deep d =
    let ran = d.at (surroundings sc.functions.now old) (starting old) (stands-at sc old deep) in
    record { outcome = ran.is.outcome; now = ap (λ (x : Around). x.now) ran.is.now; holds = d.holds; pending = ran.is.pending; runs = ran.effort }
stmt-gives (Err h) sc s old new deep d = d.at (surroundings sc.functions.now old) (starting old) (stands-at sc old deep)

-- the bits of a result are as many as its type has
bits-long : (v : Valuation) (n k w : ℕ) → length (bits_from v n k w) ≡ w
bits-long v n k zero = refl
bits-long v n k (suc w) = ap suc (bits-long v n (suc k) w)

result-long : (f : Function) (fs : List Function) (vs : List (List Bit4)) → length (result_of f fs vs) ≡ width_of f.of
result-long f fs vs =
    let a = alone_with (callees fs) in
    let e = current a ((doing f.body).run a (begun (parameters f) vs)) in
    let marks = (layout f.of).two_state in
    length-stored marks (vector_at e.now (local_number 0) (length marks)) (bits-long e.now (local_number 0) 0 (length marks))

pub function-long : (v : List Bit4) (f : Function) (fs : List Function) (vs : List (List Bit4)) (left : Option ℕ) → FunctionGives (Ok v) f fs vs left → length v ≡ width_of f.of
function-long v f fs vs left g = ap length g.0 ∙ result-long f fs vs
