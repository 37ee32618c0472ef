use Rattle.std.proofs.Common.{◌≡◌, ◌&&◌, ◌∙◌, ap, subst, List}
use Rattle.std.proofs.lemmas.Result.{IfOk-weaker}
use Rattle.bit_sets.specs.declared.span.Span.{Span}
use Rattle.bit_sets.specs.Sets.{in_spans}
use Rattle.bit_tokens.specs.Tokens.{IsLeast, Outside}
use Rattle.function_breaks.proofs.Tokens.{left-law, left-none-law, leaves-one, leaves-other, leaves-both}
use Rattle.function_breaks.proofs.paths.result_left_out.Goals as goal

pub returns-in-None-returns : goal.returns-in-None-returns
returns-in-None-returns c = λ d f fits same is can. left-none-law c.args.owed.now c.args.found.now c.in-None.is c.in-None-returns.is d f fits same is can

pub returns-in-Some-returns : goal.returns-in-Some-returns
returns-in-Some-returns c = IfOk-weaker c.least_outside.result (λ r. IsLeast (Outside c.as_slice.result.now) c.args.owed.now r) _
    (λ r h d f fits same is can.
    left-law c.args.owed.now c.args.found.now c.in-Some-returns.set r (leaves-other c.args.found.now.ends.normal c.args.found.now.ends.returns c.in-Some-returns.set c.in-None.is c.in-Some-returns.is)
    (subst (λ (s : List Span). IsLeast (Outside s) c.args.owed.now r) c.as_slice.ensures h) d f fits same is can)
    c.least_outside.ensures

pub returns-in-None-returns-2 : goal.returns-in-None-returns-2
returns-in-None-returns-2 c = IfOk-weaker c.least_outside-in-None-returns-2.result (λ r. IsLeast (Outside c.as_slice-in-None-returns-2.result.now) c.args.owed.now r) _
    (λ r h d f fits same is can.
    left-law c.args.owed.now c.args.found.now c.in-Some.set r (leaves-one c.args.found.now.ends.normal c.args.found.now.ends.returns c.in-Some.set c.in-Some.is c.in-None-returns-2.is)
    (subst (λ (s : List Span). IsLeast (Outside s) c.args.owed.now r) c.as_slice-in-None-returns-2.ensures h) d f fits same is can)
    c.least_outside-in-None-returns-2.ensures

pub returns-in_ok-both-in-Some-returns-2 : goal.returns-in_ok-both-in-Some-returns-2
returns-in_ok-both-in-Some-returns-2 c =
    let shared = c.in_ok-both-in-Some-returns-2.both in
    let first : c.as_slice-in-Some-returns-2.result.now ≡ c.in-Some.set = c.as_slice-in-Some-returns-2.ensures in
    let second : c.as_slice-in-Some-returns-2-2.result.now ≡ c.in-Some-returns-2.other = c.as_slice-in-Some-returns-2-2.ensures in
    IfOk-weaker c.least_outside-in-Some-returns-2.result (λ r. IsLeast (Outside c.as_slice-in-Some-returns-2-3.result.now) c.args.owed.now r) _
    (λ r h d f fits same is can.
    left-law c.args.owed.now c.args.found.now shared r
    (leaves-both c.args.found.now.ends.normal c.args.found.now.ends.returns c.in-Some.set c.in-Some-returns-2.other shared c.in-Some.is c.in-Some-returns-2.is
    (λ n. c.in_ok-both-in-Some-returns-2.ensures.value n ∙ ap (λ (s : List Span). in_spans s n && in_spans c.as_slice-in-Some-returns-2-2.result.now n) first ∙ ap (λ (s : List Span). in_spans c.in-Some.set n && in_spans s n) second))
    (subst (λ (s : List Span). IsLeast (Outside s) c.args.owed.now r) c.as_slice-in-Some-returns-2-3.ensures h) d f fits same is can)
    c.least_outside-in-Some-returns-2.ensures
