use Rattle.expr_type.specs.Answers.{source}
use Rattle.sv_types.specs.Layouts.{width_of}
use Rattle.bits_types.proofs.Integers.{low-number}
use Rattle.bits_types.proofs.bits.bits_of_type.Goals as goal

pub returns-clause-value : goal.returns-clause-value
returns-clause-value c =
    low-number c.bits_number.result (source c.args.text) c.args.name (width_of c.args.t.now) c.in_ok-low.low (cc c.in_ok-low.ensures) c.bits_number.ensures.value
