use Rattle.std.proofs.Common.{◌≡◌, ◌++◌, List, ℕ, [], cond, subst}
use Rattle.bit_sets.specs.declared.span.Use.{Use}
use Rattle.bit_sets.specs.Sets.{in_spans, tokens_at}
use Rattle.bit_tokens.specs.Tokens.{HasSome, IsLeast}
use Rattle.bit_tokens.proofs.Least.{least-cut}
use Rattle.bit_tokens.proofs.least_outside.Goals as goal

pub returns : goal.returns
returns c =
    let rest = c.cut_uses.new.to in
    let set = c.args.set.now in
    let us = c.args.uses.now in
    least-cut set us rest c.least_token.result
    (subst (λ (xs : List Use). (n : ℕ) → tokens_at rest n ≡ tokens_at xs n ++ cond (in_spans set n) [] (tokens_at us n)) c.new-rest.ensures c.in_ok-cut_uses.ensures)
    (subst (λ (xs : List Use). IsLeast HasSome xs c.least_token.result) c.as_slice.ensures c.least_token.ensures)
