use Rattle.std.proofs.Common.{◌≡◌, ◌+◌, ◌<◌, ◌++◌, ◌∷◌, [], ℕ, List, length, get_or, sym, ap, subst, ◌∙◌, arith, length-append}
use Rattle.typing_names.specs.Counts.{at_token, before_token}
use Rattle.typing_names.proofs.Before.{before-first, before-more, row-more}
use Rattle.typing_names.proofs.counting.counts_before.Goals as goal

pub loop-token-init : goal.loop-token-init
loop-token-init c = record {
  length = ap length c.new-before.ensures;
  sum = sym (before-first c.args.list.now);
  before = λ q h. absurd (omega arith);
}

pub loop-token-preserved : goal.loop-token-preserved
loop-token-preserved c =
    let t = c.loop-token.token in
    let pushed : c.push.new.self ≡ c.loop-token.before ++ c.loop-token.sum ∷ [] = c.in_ok-push.ensures.ok in
    let here : get_or c.as_slice.result.now t 0 ≡ at_token t c.args.list.now = ap (λ (xs : List ℕ). get_or xs t 0) c.as_slice.ensures ∙ c.in_ok-counts.ensures.counts t (omega (arith, c.in_ok-counts.ensures.length, c.len-token-end.ensures, c.loop-token-test.true)) in
    record {
      length = ap length pushed ∙ omega (arith, length-append c.loop-token.before (c.loop-token.sum ∷ []));
      sum = omega (arith, c.in-Some.ensures, here, before-more t c.args.list.now, c.loop-token.invariant.sum);
      before = subst (λ (xs : List ℕ). (q : ℕ) → q < t + 1 → get_or xs q 0 ≡ before_token q c.args.list.now) (sym pushed)
          (row-more c.loop-token.before c.loop-token.sum t c.args.list.now c.loop-token.invariant.length c.loop-token.invariant.sum c.loop-token.invariant.before);
    }
