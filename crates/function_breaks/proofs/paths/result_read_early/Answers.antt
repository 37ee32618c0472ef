use Rattle.std.proofs.Common.{◌∙◌, ap, subst, List}
use Rattle.bit_sets.specs.declared.span.Span.{Span}
use Rattle.bit_sets.specs.declared.span.Use.{Use}
use Rattle.bit_sets.specs.Sets.{in_spans}
use Rattle.bit_tokens.specs.Tokens.{IsLeast, Inside}
use Rattle.function_breaks.proofs.Tokens.{early-law}
use Rattle.function_breaks.proofs.paths.result_read_early.Goals as goal

pub returns : goal.returns
returns c =
    early-law c.args.owed.now c.args.found.now c.in_ok-bits.bits c.least_inside.result
    (λ n. c.in_ok-bits.ensures.value n ∙ ap (λ (ss : List Span). in_spans ss n) (c.as_slice.ensures ∙ c.in_ok-spans.ensures))
    (subst (λ (us : List Use). IsLeast (Inside c.in_ok-bits.bits) us c.least_inside.result) c.as_slice-3.ensures
    (subst (λ (s : List Span). IsLeast (Inside s) c.as_slice-3.result.now c.least_inside.result) c.as_slice-2.ensures c.least_inside.ensures))
