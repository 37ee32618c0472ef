use Rattle.expr_type.specs.declared.step.Step.TheVariants as S
use Rattle.expr_type.specs.Typings.{whole}
use Rattle.typing_steps.proofs.Combining.{checked-stops}
use Rattle.typing_paths.specs.Dimensions.{bounds_of}
use Rattle.typing_paths.proofs.steps.part.Goals as goal

pub returns-in-Err-clause-value : goal.returns-in-Err-clause-value
returns-in-Err-clause-value g c =
    checked-stops (bounds_of (g.S.Names.context c.args.names.now) c.args.left.now c.args.right.now) (λ p. whole (S.Part c.args.opening p.0 p.1))
    c.args.known.now.functions c.bounds.new.known.functions c.in-Err.halt c.in-Err.ensures.value
