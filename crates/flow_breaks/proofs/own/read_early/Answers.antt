use Rattle.std.proofs.Common.{◌∙◌, ap, subst, List, map}
use Rattle.bit_sets.specs.declared.span.Span.{Span}
use Rattle.bit_sets.specs.declared.span.Use.{Use}
use Rattle.bit_sets.specs.Sets.{in_spans}
use Rattle.bit_tokens.specs.Tokens.{IsLeast, Inside}
use Rattle.flow_sets.specs.declared.uses.Write.{Write}
use Rattle.comb_order.specs.Bits.{kept}
use Rattle.flow_breaks.proofs.Tokens.{read-early-law}
use Rattle.flow_breaks.proofs.own.read_early.Goals as goal

pub returns : goal.returns
returns c =
    read-early-law c.args.found.now c.args.widths.now c.in_ok-written.written c.least_inside.result
    (λ n. c.in_ok-written.ensures.value n
    ∙ ap (λ ss. in_spans ss n) (c.as_slice-2.ensures ∙ c.in_ok-spans.ensures ∙ ap (map (λ (w : Write). kept c.args.widths.now w.of.span)) c.as_slice.ensures))
    (subst (λ (us : List Use). IsLeast (Inside c.in_ok-written.written) us c.least_inside.result) c.as_slice-4.ensures
    (subst (λ (s : List Span). IsLeast (Inside s) c.as_slice-4.result.now c.least_inside.result) c.as_slice-3.ensures c.least_inside.ensures))
