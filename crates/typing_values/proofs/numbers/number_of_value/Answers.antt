use Rattle.std.proofs.lemmas.Int.{to_z-of_z}
use Rattle.expr_type.specs.Answers.{source}
use Rattle.typing_values.proofs.Constants.{number-within}
use Rattle.typing_values.proofs.numbers.number_of_value.Goals as goal

pub returns-clause-within : goal.returns-clause-within
returns-clause-within g c =
    let low = c.ranges.low in
    let high = c.ranges.high in
    let made = simp to_z-of_z at c.number_in.ensures in
    number-within (source c.text.result) c.args.low c.args.high c.args.v.now c.args.known.now.functions c.number_in.result made
