-- Conditions in a row.
use Rattle.std.proofs.Common.{◌≡◌, ◌<◌, true, ℕ, zero, suc, List, [], ◌∷◌, length, get_or, map, refl, ap, arith, sym, subst}
use Rattle.std.specs.Prelude.{Result, Ok, Err, Vec}
use Rattle.std.specs.declared.alloc.Global.{Global}
use Rattle.std.proofs.lemmas.List.{map-id}
use Rattle.sv_tree.specs.declared.expressions.Expr.{Expr}
use Rattle.sv_types.specs.declared.statement.Function.{Function}
use Rattle.expr_type.specs.declared.halt.Halt.{Halt}
use Rattle.expr_type.specs.declared.operand.Valued.{Valued}
use Rattle.expr_type.specs.Typings.{Typed}
use Rattle.stmt_laws.specs.Written.{exprs_written}
use Rattle.stmt_types.specs.Lists.{listed}
use Rattle.typing_fits.proofs.Full.{and-left, and-right}
use Rattle.typing_steps.specs.Steps.{TypesTo}
use Rattle.typing_walks.specs.Written.{is_written}
use Rattle.typing_calls.specs.Lists.{all_meant, as_meant}
use Rattle.typing_actions.specs.Conditions.{as_itself}

-- each of them is written
pub written-at : (es : List Expr) (i : ℕ) (e : Expr) → exprs_written es ≡ true → i < length es → e ≡ get_or es i e → is_written e ≡ true
written-at [] i e w within is = absurd (omega arith)
written-at (x ∷ es) zero e w within is = subst (λ (y : Expr). is_written y ≡ true) (sym is) (and-left (is_written x) (exprs_written es) w)
written-at (x ∷ es) (suc i) e w within is = written-at es i e (and-right (is_written x) (exprs_written es) w) (omega arith) is

-- values as they are
pub one-itself : (r : Result Valued Halt) (t : Typed Valued) (fs : List Function) → TypesTo r t fs → TypesTo (as_meant as_itself r) t fs
one-itself (Ok v) t fs p = p
one-itself (Err h) t fs p = p

abbrev as_ok : List Valued → Result (List Valued) Halt
as_ok vs = Ok vs

pub all-themselves : (r : Result (Vec Valued Global) Halt) (t : Typed (List Valued)) (fs : List Function) → TypesTo (all_meant as_itself r) t fs → TypesTo (listed r) t fs
all-themselves (Ok v) t fs p = subst (λ (vs : List Valued). TypesTo (as_ok vs) t fs) (map-id v.items) p
all-themselves (Err h) t fs p = p
