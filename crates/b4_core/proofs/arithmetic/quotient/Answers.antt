use Rattle.std.proofs.Common.{sym, ◌∙◌}
use Rattle.b4_core.proofs.Operations.{not_zero}
use Rattle.b4_core.proofs.arithmetic.quotient.Goals as goal

pub quotient-quotient-requires : goal.quotient-quotient-requires
quotient-quotient-requires c =
    λ e. not_zero _ _ (λ z. c.if-y-eq0.false (c.in-Some.ensures.2 ∙ z)) (sym c.of_vector.ensures ∙ e)
