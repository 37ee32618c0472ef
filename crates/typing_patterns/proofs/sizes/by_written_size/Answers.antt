use Rattle.std.proofs.Common.{subst}
use Rattle.expr_type.specs.Answers.{Gives}
use Rattle.expr_type.specs.Forms.{written_size}
use Rattle.expr_type.specs.Typings.{rule}
use Rattle.typing_steps.proofs.Combining.{rule-types}
use Rattle.typing_patterns.proofs.sizes.by_written_size.Goals as goal

pub returns-clause-value : goal.returns-clause-value
returns-clause-value g c =
    let k = g.S.Names.context c.args.names.now in
    let fs = c.args.known.now.functions in
    c.sized.ensures.value (rule (written_size k.source c.args.size)) fs
    (rule-types c.written_size-bits.result (written_size k.source c.args.size) fs
    (subst (λ s. Gives c.written_size-bits.result (written_size s c.args.size)) c.text.ensures c.written_size-bits.ensures))
