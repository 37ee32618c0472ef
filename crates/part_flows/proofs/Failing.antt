-- Which expression holds what takes too long.
use Rattle.std.proofs.Common.{◌≡◌, ℕ, zero, suc, ◌<◌, true, List, [], ◌∷◌, inl, inr, get_or, length, refl, arith, sym, subst}
use Rattle.row_machine.specs.Valuation.{Member}
use Rattle.sv_types.specs.declared.expression.Expr.{Expr}
use Rattle.sv_types.specs.Expressions.{meaning}
use Rattle.expr_flows.specs.declared.fails.FlowFail.{FlowFail}
use Rattle.expr_flows.specs.declared.fails.FlowFail.TheVariants as F
use Rattle.expr_flows.specs.declared.known.Known.{Known}
use Rattle.expr_flows.specs.Known.{sight, ValueFails}
use Rattle.expr_flows.specs.Reads.{LongAt, ReadFails, IndexFails}
use Rattle.expr_flows.specs.Targets.{TargetsFail}

-- one of some expressions
pub one-fails : (f : FlowFail) (k : Known) (e : Expr) (es : List Expr) → Member es e → ReadFails f k e → TargetsFail f k es
one-fails F.Memory k e es m h = tt
one-fails (F.TooLong at) k e es m h = record { expr = e; stands = m; long = h }

pub first-fails : (f : FlowFail) (k : Known) (e : Expr) (es : List Expr) → ReadFails f k e → TargetsFail f k (e ∷ es)
first-fails f k e es h = one-fails f k e (e ∷ es) (inl refl) h

pub other-fails : (f : FlowFail) (k : Known) (e : Expr) (es : List Expr) → TargetsFail f k es → TargetsFail f k (e ∷ es)
other-fails F.Memory k e es h = tt
other-fails (F.TooLong at) k e es h = record { expr = h.expr; stands = inr h.stands; long = h.long }

pub stands-at : (es : List Expr) (i : ℕ) (e : Expr) → i < length es → e ≡ get_or es i e → Member es e
stands-at [] i e below is = absurd (omega arith)
stands-at (x ∷ xs) zero e below is = inl is
stands-at (x ∷ xs) (suc i) e below is = inr (stands-at xs i e (omega arith) is)

-- a constant, as it is valued
pub reads-fail : (f : FlowFail) (k : Known) (e : Expr) → ReadFails f k e → IndexFails f k e
reads-fail F.Memory k e h = tt
reads-fail (F.TooLong at) k e h = LongAt.Within e at h

pub value-fails : (f : FlowFail) (k : Known) (e : Expr) → (meaning e).constant (sight k) ≡ true → ValueFails f k e → IndexFails f k e
value-fails F.Memory k e is h = tt
value-fails (F.TooLong at) k e is h = subst (λ n. LongAt k e n) (sym h.0) (LongAt.Itself e is h.1)
