use Rattle.std.proofs.Common.{sym, ap, ◌∙◌}
use Rattle.v_tree.specs.Tokens.{begins}
use Rattle.v_lexer.proofs.Begins.{find-goes, find-at}
use Rattle.v_lexer.proofs.spelled.first_begun.Goals as goal

pub returns-then-begins-clause-some : goal.returns-then-begins-clause-some
returns-then-begins-clause-some c =
    find-at c.args.words.now (λ m. begins m c.args.text.now) _ _ _ c.loop-place-test.true
    (ap (λ w. begins w c.args.text.now) (sym c.as_bytes.ensures.value) ∙ sym c.begins.ensures ∙ c.if-begins.true) c.loop-place.invariant

pub loop-place-preserved : goal.loop-place-preserved
loop-place-preserved c =
    find-goes c.args.words.now (λ m. begins m c.args.text.now) _ _ _ c.loop-place-test.true
    (ap (λ w. begins w c.args.text.now) (sym c.as_bytes.ensures.value) ∙ sym c.begins.ensures ∙ c.if-begins.false) c.loop-place.invariant
