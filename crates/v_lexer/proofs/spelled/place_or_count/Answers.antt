use Rattle.std.proofs.Common.{sym, ap, ◌∙◌}
use Rattle.std.specs.Str.{bytes_eq}
use Rattle.v_lexer.proofs.Begins.{position-goes, position-stops}
use Rattle.v_lexer.proofs.spelled.place_or_count.Goals as goal

pub returns-then-eq-clause-place : goal.returns-then-eq-clause-place
returns-then-eq-clause-place c =
    position-stops c.args.words.now c.args.text.now _ _ _ c.loop-place-test.true
    (ap (λ w. bytes_eq w c.args.text.now) (sym c.as_bytes.ensures.value) ∙ sym c.eq.ensures ∙ c.if-eq.true) c.loop-place.invariant

pub loop-place-preserved : goal.loop-place-preserved
loop-place-preserved c =
    position-goes c.args.words.now c.args.text.now _ _ _ c.loop-place-test.true
    (ap (λ w. bytes_eq w c.args.text.now) (sym c.as_bytes.ensures.value) ∙ sym c.eq.ensures ∙ c.if-eq.false) c.loop-place.invariant
