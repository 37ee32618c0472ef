use Rattle.expr_type.specs.Answers.{source}
use Rattle.stmt_forms.proofs.Choosing.{chosen-fine, ok-same, ok-then}
use Rattle.stmt_forms.proofs.loops.chosen.Goals as goal

pub returns : goal.returns
returns c =
    λ k s. let parts = ok-then c.both-parts.result (c.in_ok-test.test, c.in_ok-test.other) _ c.in_ok-test.ensures.0 c.both-parts.ensures in
    chosen-fine k (source c.args.text) c.args.at c.args.width c.is_signed-signed.result c.args.e c.in_ok-test.other c.in_ok-test.test c.in_ok-test.e c.in_ok-of.of c.in_ok-of.form c.expr_of.result s c.is_signed-signed.ensures
    (ok-same c.args.e c.in_ok-test.e c.in_ok-test.ensures.1) (ok-then c.always.result c.in_ok-test.test _ parts.0 (c.always.ensures k s)) (ok-then c.zero.result c.in_ok-test.other _ parts.1 c.zero.ensures)
    (ok-then c.vector.result c.in_ok-of.of _ c.in_ok-of.ensures.0 c.vector.ensures.value) (ok-then c.three-form.result c.in_ok-of.form _ c.in_ok-of.ensures.1 c.three-form.ensures) c.expr_of.ensures
