-- What is passed to a function, and what it gives.
use Rattle.std.proofs.Common.{◌≡◌, ℕ, List, map, Option, Some, Result, Ok, Err, ap, sym, ◌∙◌, subst}
use Rattle.b4_core.specs.declared.bit.Bit4.{Bit4}
use Rattle.sv_types.specs.declared.expression.Expr.{Expr}
use Rattle.sv_types.specs.declared.expression.Form.TheVariants as V
use Rattle.sv_types.specs.declared.statement.Formal.{Formal}
use Rattle.sv_types.specs.Surroundings.{Around, Callee}
use Rattle.sv_types.specs.Functions.{parameter}
use Rattle.sv_types.specs.Expressions.{meaning}
use Rattle.eval_parts.specs.declared.halt.Halt.{Halt}
use Rattle.eval_parts.specs.Surroundings.{running}
use Rattle.eval_parts.specs.Answers.{Halts, CallGives, assigned}
use Rattle.eval_parts.specs.Targets.{marks_of_formals}
use Rattle.eval_forms.specs.Asked.{assigned_asked, all_bits}
use Rattle.eval_forms.specs.Assigned.{PlacesFit, AssignedBy}
use Rattle.eval_forms.specs.Kinds.{IsCallOf}
use Rattle.eval_forms.proofs.Formals.{formals-within}
use Rattle.eval_exprs.specs.declared.calls.Call.{Call}
use Rattle.eval_exprs.specs.declared.calls.Called.{Called}
use Rattle.eval_exprs.specs.declared.held.Scope.{Scope}
use Rattle.eval_exprs.specs.Held.{callees_in, formals}
use Rattle.eval_exprs.specs.Calls.{CallOperands, CalledGives}

pub places-fit : (e : Expr) (f : ℕ) (sc : Scope) (fs : List Formal) (actuals : List Expr) (vs : List (List Bit4)) → IsCallOf (Some f) e → map parameter fs ≡ formals sc f
    → ((g : ℕ) (es : List Expr) → e.form ≡ V.Call g es → actuals ≡ es) → CallOperands e f (formals sc) vs → PlacesFit (marks_of_formals (map parameter fs)) actuals vs
places-fit e f sc fs actuals vs call same passed o =
    subst (λ ps. PlacesFit (marks_of_formals ps) actuals vs) (sym same)
    (subst (λ es. PlacesFit (marks_of_formals (formals sc f)) es vs) (sym (passed f call.0 call.1)) (record { formals = formals sc; fits = o.fit call.0 call.1; lengths = o.lengths call.0 call.1 }))

pub passed-are : (f : ℕ) (sc : Scope) (fs : List Formal) (actuals es : List Expr) (vs rs : List (List Bit4)) (a : Around) → map parameter fs ≡ formals sc f → actuals ≡ es → AssignedBy (marks_of_formals (map parameter fs)) actuals vs rs
    → vs ≡ all_bits (assigned_asked (marks_of_formals (callees_in sc f).formals) es) a → rs ≡ assigned (marks_of_formals (callees_in sc f).formals) (map meaning es) a
passed-are f sc fs actuals es vs rs a same passed made values =
    let at : AssignedBy (marks_of_formals (callees_in sc f).formals) es vs rs =
    subst (λ ps. AssignedBy (marks_of_formals ps) es vs rs) (same ∙ sym (formals-within sc.depth sc.functions.now f)) (subst (λ xs. AssignedBy (marks_of_formals (map parameter fs)) xs vs rs) passed made)
    in at.value a values

pub halted : (r : Result (List Bit4) Halt) (h : Halt) (c : Callee) (q : Call) (vs : List (List Bit4)) (old new : Option ℕ) → r ≡ Err h → CalledGives (Err h) c q → q.passed ≡ vs → q.left ≡ old → CallGives r c vs old new
halted r h c q vs old new is gives passed left =
    subst (λ x. CallGives x c vs old new) (sym is) (subst (λ xs. Halts h (c.effort xs (running old))) passed (subst (λ l. Halts h (c.effort q.passed (running l))) left gives))

pub ended : (called : Called) (c : Callee) (q : Call) (v : List Bit4) (vs : List (List Bit4)) (old new : Option ℕ) → CalledGives (Ok called) c q → q.passed ≡ vs → q.left ≡ old → v ≡ called.result → new ≡ called.left
    → CallGives (Ok v) c vs old new
ended called c q v vs old new gives passed left is after = (
  is ∙ gives.result ∙ ap (λ xs. (c.run xs).result) passed,
  ap (λ xs. c.effort xs (running old)) (sym passed) ∙ ap (λ l. c.effort q.passed (running l)) (sym left) ∙ gives.runs ∙ ap running (sym after),
)
