use Rattle.std.proofs.Common.{◌+◌, ◌++◌, length, drop, sym, ap, ◌∙◌, add-one}
use Rattle.v_tree.specs.Printing.{plain_names}
use Rattle.v_tree.specs.Takings.{taken_in}
use Rattle.v_tree.proofs.Takes.{drop-item}
use Rattle.v_tree.proofs.plain.plain_names.Goals as goal

pub loop-path-preserved : goal.loop-path-preserved
loop-path-preserved c = (
  ap (λ k. k + 1) c.loop-path.invariant.0,
  ap (λ p. c.add_name.new.names ++ plain_names (length c.args.paths.now) p (taken_in c.add_name.new.taken) (drop (c.loop-path.path-index + 1) c.args.paths.now)) (add-one c.loop-path.place)
      ∙ c.in_ok-add_name.ensures (drop (c.loop-path.path-index + 1) c.args.paths.now)
      ∙ ap (λ ps. c.loop-path.names ++ plain_names (length c.args.paths.now) c.loop-path.place (taken_in c.loop-path.taken) ps) (sym (drop-item c.args.paths.now c.loop-path.path-index c.path-item.result c.loop-path-test.true c.path-item.is))
      ∙ c.loop-path.invariant.1,
)
