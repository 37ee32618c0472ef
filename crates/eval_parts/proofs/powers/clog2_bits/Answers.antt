use Rattle.std.proofs.Common.{◌≡◌, IfOk, length, sym, subst, ◌∙◌}
use Rattle.b4_core.specs.Vectors.{num}
use Rattle.eval_parts.specs.Logs.{IsLog}
use Rattle.eval_parts.proofs.Logs.{clog-known}
use Rattle.eval_parts.proofs.powers.clog2_bits.Goals as goal

pub returns-then-is_known : goal.returns-then-is_known
returns-then-is_known c =
    let sure = sym c.is_known.ensures ∙ c.if-is_known.true in
    subst (λ y. IfOk c.number_vector.result (λ r. r ≡ y)) (clog-known c.args.v.now c.log_of-log.result c.ceiling.result sure (subst (λ u. IsLog c.log_of-log.result (num u) (length u)) c.as_slice.ensures c.log_of-log.ensures) c.ceiling.ensures) c.number_vector.ensures
