-- `return` with a value.
use Rattle.std.proofs.Common.{◌≡◌, ℕ, false, [], ◌∷◌, Some, sym, ap, ◌∙◌, subst}
use Rattle.std.specs.Prelude.{Ok, Err}
use Rattle.sv_types.specs.declared.expression.Expr.{Expr}
use Rattle.sv_types.specs.declared.expression.Form.TheVariants as F
use Rattle.sv_types.specs.declared.statement.Stmt.{Stmt}
use Rattle.sv_types.specs.declared.statement.Stmt.TheVariants as S
use Rattle.sv_types.specs.declared.types.SvType.{SvType}
use Rattle.expr_type.specs.declared.halt.Halt.{Halt}
use Rattle.expr_type.specs.Answers.{Gives, HaltsBy, reason}
use Rattle.expr_type.specs.Names.{Context, Source, spot}
use Rattle.expr_type.specs.Operands.{given}
use Rattle.expr_type.specs.Operators.{expr_at}
use Rattle.expr_type.specs.Statements.{return_value}
use Rattle.expr_type.specs.Typings.{Checked, where_whole}
use Rattle.pattern_types.specs.declared.operand.Operand as O
use Rattle.pattern_types.specs.Meaning.{operand_of}
use Rattle.stmt_forms.proofs.Wholes.{where-stops}

abbrev returned : Source → ℕ → SvType → Expr → Stmt
returned x at t e = S.Block [] (S.Assign (expr_at x at t (F.Local 0) ∷ []) e false (spot x at) ∷ S.Return ∷ [])

abbrev made_return : Source → ℕ → SvType → Expr → Checked Stmt
made_return x at t e = Ok (returned x at t e)

pub return-fine : (k : Context) (src : Source) (at : ℕ) (t : SvType) (o : O.Operand) (e : Expr) (s : Stmt) → src ≡ k.source → given src t (operand_of src o) ≡ Ok e
    → s ≡ S.Block [] (S.Assign (expr_at src at t (F.Local 0) ∷ []) e false (spot src at) ∷ S.Return ∷ []) → return_value k at (Some t) (operand_of k.source o) ≡ Ok s
return-fine k src at t o e s same g is =
    ap (λ (x : Source). where_whole (given x t (operand_of x o)) (made_return x at t)) (sym same)
    ∙ ap (λ (c : Checked Expr). where_whole c (made_return src at t)) g ∙ ap ok (sym is)
  where
    ok : Stmt → Checked Stmt
    ok u = Ok u

pub return-stops : (k : Context) (src : Source) (at : ℕ) (t : SvType) (o : O.Operand) (h : Halt) → src ≡ k.source → Gives {A = Expr} (Err h) (given src t (operand_of src o))
    → Gives {A = Stmt} (Err h) (return_value k at (Some t) (operand_of k.source o))
return-stops k src at t o h same g =
    where-stops (given k.source t (operand_of k.source o)) (made_return k.source at t) h (subst (λ (x : Source). HaltsBy h (reason (given x t (operand_of x o)))) same g)

pub ruleset returning = (return-fine, return-stops)
