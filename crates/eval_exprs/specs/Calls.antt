-- What runs the functions that expressions call.
use Rattle.std.specs.Prelude.{◌≡◌, ℕ, List, map, length, Option, Result, Ok, Err}
use Rattle.b4_core.specs.declared.bit.Bit4.{Bit4}
use Rattle.sv_types.specs.declared.expression.Expr.{Expr}
use Rattle.sv_types.specs.declared.expression.Form.TheVariants as V
use Rattle.sv_types.specs.Surroundings.{Parameter, Callee}
use Rattle.sv_types.specs.Expressions.{meaning}
use Rattle.eval_parts.specs.declared.halt.Halt.{Halt}
use Rattle.eval_parts.specs.Surroundings.{running}
use Rattle.eval_parts.specs.Answers.{Halts, CallGives, assigned}
use Rattle.eval_parts.specs.Limits.{AllFitAt}
use Rattle.eval_parts.specs.Targets.{marks_of_formals}
use Rattle.eval_forms.specs.Callees.{AllFunctionsFit}
use Rattle.eval_forms.specs.Asked.{assigned_asked, widths_asked, all_bits}
use Rattle.eval_exprs.specs.declared.calls.Call.{Call}
use Rattle.eval_exprs.specs.declared.calls.Called.{Called}
use Rattle.eval_exprs.specs.declared.held.Held.{Held}
use Rattle.eval_exprs.specs.declared.held.Scope.{Scope}
use Rattle.eval_exprs.specs.Held.{around, callees_in}

-- a call that ran to its end gives what the function gives
pub record Ends (called : Called) (c : Callee) (q : Call) : Type 0 where
  pub result : called.result ≡ (c.run q.passed).result
  pub finals : called.finals ≡ (c.run q.passed).finals
  pub runs : c.effort q.passed (running q.left) ≡ running called.left

abbrev pub CalledGives : Result Called Halt → Callee → Call → Type 0
CalledGives (Ok called) c q = Ends called c q
CalledGives (Err halt) c q = Halts halt (c.effort q.passed (running q.left))

-- What runs calls may always be called, and each of its answers is what the function that is called gives; the types of all
-- functions have at most 2^22 bits.
pub record CallsRun (callable : Type 0) (post : Call → Result Called Halt → Type 0) (sc : Scope) : Type 0 where
  pub always : callable
  pub functions : AllFunctionsFit sc.functions.now
  pub gives : (q : Call) (r : Result Called Halt) → post q r → CalledGives r (callees_in sc q.function) q

-- the operands of a call fit, and these are so many bits for each of them
pub record CallOperands (e : Expr) (f : ℕ) (fs : ℕ → List Parameter) (vs : List (List Bit4)) : Type 0 where
  pub fit : (es : List Expr) → e.form ≡ V.Call f es → AllFitAt (marks_of_formals (fs f)) es fs
  pub lengths : (es : List Expr) → e.form ≡ V.Call f es → map length vs ≡ widths_asked (assigned_asked (marks_of_formals (fs f)) es)

-- what a call gives for the values of its operands
abbrev pub ResultGives : Result (List Bit4) Halt → Expr → ℕ → Held → List (List Bit4) → Option ℕ → Option ℕ → Type 0
ResultGives r e f h vs old new =
    (es : List Expr) → e.form ≡ V.Call f es → let marks = marks_of_formals ((around h).callee f).formals in
    vs ≡ all_bits (assigned_asked marks es) (around h) → CallGives r ((around h).callee f) (assigned marks (map meaning es) (around h)) old new
