use Rattle.std.proofs.Common.{◌≡◌, refl, sym, subst}
use Rattle.std.specs.Prelude.{Err}
use Rattle.sv_types.specs.declared.frame.ParamValue.{ParamValue}
use Rattle.expr_type.specs.declared.halt.Halt.TheVariants as H
use Rattle.expr_type.specs.Answers.{Gives, source}
use Rattle.pattern_types.specs.Meaning.{operand_of}
use Rattle.pattern_types.specs.declared.operand.Operand as O
use Rattle.typing_fits.specs.Operands.{SoundOperand}
use Rattle.constant_values.specs.Parameters.{of_range}
use Rattle.constant_values.proofs.Giving.{plain-sound, range-pattern, range-plain, range-stream}
use Rattle.constant_values.proofs.parameters.ranged_value.Goals as goal

pub plain_range-requires-clause-sound : goal.plain_range-requires-clause-sound
plain_range-requires-clause-sound c =
    let k = source c.args.text in
    plain-sound k c.in-Plain.v c.args.functions.now (subst (λ (x : O.Operand). SoundOperand (operand_of k x) c.args.functions.now) c.in-Plain.is c.requires.sound)

pub returns-in-Plain : goal.returns-in-Plain
returns-in-Plain c =
    let k = source c.args.text in
    let r = c.plain_range.result in
    subst (λ (x : O.Operand). Gives r (of_range k c.args.of c.args.signed (operand_of k x) c.args.functions.now)) (sym c.in-Plain.is)
    (range-plain k c.args.of c.args.signed c.args.functions.now c.in-Plain.v r c.plain_range.ensures)

pub returns-in-Pattern : goal.returns-in-Pattern
returns-in-Pattern c =
    let k = source c.args.text in
    subst (λ (x : O.Operand). Gives {A = ParamValue} (Err (H.Breaks c.in-Pattern.tick 505)) (of_range k c.args.of c.args.signed (operand_of k x) c.args.functions.now)) (sym c.in-Pattern.is)
    (range-pattern k c.args.of c.args.signed c.args.functions.now c.in-Pattern.tick c.in-Pattern.times c.in-Pattern.items)

pub returns-in-Stream : goal.returns-in-Stream
returns-in-Stream c =
    let k = source c.args.text in
    let r = c.stream_value.result in
    subst (λ (x : O.Operand). Gives r (of_range k c.args.of c.args.signed (operand_of k x) c.args.functions.now)) (sym c.in-Stream.is)
    (range-stream k c.args.of c.args.signed c.args.functions.now c.in-Stream.v r c.stream_value.ensures)
