use Rattle.std.proofs.Common.{ap, ◌∙◌, ◌||◌}
use Rattle.bit_sets.specs.Sets.{in_spans}
use Rattle.bit_sets.proofs.Halves as H
use Rattle.bit_sets.proofs.Steps.{zero_span}
use Rattle.bit_sets.proofs.unions.+union_of.Goals as goal

pub returns-then-spans-eq1-clause-value : goal.returns-then-spans-eq1-clause-value
returns-then-spans-eq1-clause-value t c = H.if-ok (λ r h n. h n ∙ H.single c.args.spans.now zero_span n c.if-spans-eq1.true) c.set_of.result c.set_of.ensures.value

pub returns-clause-value : goal.returns-clause-value
returns-clause-value t c =
    H.if-ok
    (λ r h n. h n ∙ ap (λ ss. in_spans ss n || in_spans c.as_slice-2.result.now n) c.as_slice.ensures ∙ ap (λ ss. in_spans c.in_ok-lower.lower n || in_spans ss n) c.as_slice-2.ensures
    ∙ ap (λ b. b || in_spans c.in_ok-upper.upper n) (c.in_ok-lower.ensures.value n) ∙ ap (λ b. in_spans c.split_at.result.0.now n || b) (c.in_ok-upper.ensures.value n)
    ∙ H.halves _ n c.args.spans.now c.split_at.result.0.now c.split_at.result.1.now c.split_at.ensures.front c.split_at.ensures.back)
    c.joined.result c.joined.ensures.value
