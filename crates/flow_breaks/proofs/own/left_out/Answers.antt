use Rattle.std.proofs.Common.{◌∙◌, ap, subst, List, map}
use Rattle.std.proofs.lemmas.Result.{IfOk-weaker}
use Rattle.bit_sets.specs.declared.span.Span.{Span}
use Rattle.bit_sets.specs.declared.span.Use.{Use}
use Rattle.bit_tokens.specs.Tokens.{IsLeast, Outside}
use Rattle.flow_sets.specs.declared.uses.Write.{Write}
use Rattle.comb_order.specs.Bits.{kept_use}
use Rattle.flow_breaks.proofs.Tokens.{left-out-law, left-none-law}
use Rattle.flow_breaks.proofs.own.left_out.Goals as goal

pub returns-in-None : goal.returns-in-None
returns-in-None c = λ d p limits same is can part. left-none-law c.args.found.now c.in-None.is d p limits is can part

pub returns-in_ok-writes-in-Some : goal.returns-in_ok-writes-in-Some
returns-in_ok-writes-in-Some c = IfOk-weaker c.least_outside.result (λ r. IsLeast (Outside c.as_slice-in-Some.result.now) c.as_slice-in-Some-2.result.now r) _
    (λ r h d p limits same is can part.
    left-out-law c.args.found.now c.args.widths.now c.in-Some.set r c.in-Some.is
    (subst (λ (us : List Use). IsLeast (Outside c.in-Some.set) us r)
    (c.as_slice-in-Some-2.ensures ∙ c.in_ok-writes-in-Some.ensures ∙ ap (map (λ (w : Write). kept_use c.args.widths.now w.of)) c.as_slice.ensures)
    (subst (λ (s : List Span). IsLeast (Outside s) c.as_slice-in-Some-2.result.now r) c.as_slice-in-Some.ensures h))
    d p limits same is can part)
    c.least_outside.ensures
