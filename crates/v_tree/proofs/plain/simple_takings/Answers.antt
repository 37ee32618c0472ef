use Rattle.std.proofs.Common.{◌+◌, refl, sym, ap, ◌∙◌}
use Rattle.v_tree.specs.Tokens.{is_simple}
use Rattle.v_tree.specs.Printing.{given_to, simple_taken}
use Rattle.v_tree.specs.Takings.{taken_in}
use Rattle.v_tree.proofs.Takes.{chosen, passed, simple-step}
use Rattle.v_tree.proofs.plain.simple_takings.Goals.{then-is_simple+in_ok-copy+in_ok-give, else-is_simple}
use Rattle.v_tree.proofs.plain.simple_takings.Goals as goal

pub loop-path-init : goal.loop-path-init
loop-path-init c = (refl, ap (λ t. simple_taken 0 t c.args.paths.now) c.new-taken.ensures)

pub loop-path-preserved : goal.loop-path-preserved
loop-path-preserved c = (
  ap (λ k. k + 1) c.loop-path.invariant.0,
  simple-step c.loop-path.place (taken_in c.loop-path.taken) c.args.paths.now c.loop-path.path-index c.path-item.result (taken_in c.if-is_simple.taken) c.loop-path-test.true c.path-item.is
      (elim c.if-is_simple.branch [
        | then-is_simple+in_ok-copy+in_ok-give w ↦
            ap taken_in w.taken-is ∙ w.in_ok-give.ensures ∙ ap (λ p. given_to (taken_in c.loop-path.taken) p c.loop-path.place) w.in_ok-copy.ensures
            ∙ sym (chosen (is_simple c.path-item.result) (given_to (taken_in c.loop-path.taken) c.path-item.result c.loop-path.place) (taken_in c.loop-path.taken) (ap is_simple (sym c.as_bytes.ensures) ∙ sym c.is_simple.ensures ∙ w.if-is_simple.true))
        | else-is_simple w ↦
            ap taken_in w.taken-is
            ∙ sym (passed (is_simple c.path-item.result) (given_to (taken_in c.loop-path.taken) c.path-item.result c.loop-path.place) (taken_in c.loop-path.taken) (ap is_simple (sym c.as_bytes.ensures) ∙ sym c.is_simple.ensures ∙ w.if-is_simple.false))
      ])
      ∙ c.loop-path.invariant.1,
)
