use Rattle.std.proofs.Common.{◌%◌, sym, ap, ◌∙◌}
use Rattle.std.specs.Prelude.{◌&&◌, ◌==◌, not}
use Rattle.expr_type.specs.Forms.{stream_of}
use Rattle.expr_type.specs.Operators.{all_bits}
use Rattle.typing_assigns.proofs.Joining.{stream-fine}
use Rattle.typing_assigns.proofs.parts.stream_target.Goals as goal

pub returns-in-Ok-clause-value : goal.returns-in-Ok-clause-value
returns-in-Ok-clause-value g c =
    let k = g.S.Names.context c.args.names.now in
    let es = c.in_ok-exprs.exprs in
    let whole = ap (λ s. stream_of s c.args.opening c.args.reversed c.args.slice es) (sym c.text.ensures) ∙ c.in-Ok.ensures.value in
    let cut = sym c.if-is_cut.false ∙ c.is_cut.ensures ∙ ap (λ fs. c.args.reversed && not (all_bits fs % c.args.slice == 0)) c.as_slice.ensures in
    stream-fine k c.args.opening c.args.reversed c.args.slice c.args.targets.items es c.in-Ok.of c.in_ok-exprs.ensures cut whole
