use Rattle.std.proofs.Common.{◌≡◌, sym, subst}
use Rattle.expr_type.specs.Answers.{Gives, source}
use Rattle.pattern_types.specs.Meaning.{Parts, fitted_in, operand_of, pattern_of}
use Rattle.pattern_types.specs.declared.operand.Operand as O
use Rattle.typing_fits.specs.Operands.{SoundOperand}
use Rattle.constant_values.specs.Parameters.{of_type}
use Rattle.constant_values.proofs.Giving.{pattern-if, plain-sound, type-pattern, type-plain, type-stream}
use Rattle.constant_values.proofs.parameters.of_type.Goals as goal

pub plain_value-requires-clause-sound : goal.plain_value-requires-clause-sound
plain_value-requires-clause-sound c =
    let k = source c.args.text in
    plain-sound k c.in-Plain.v c.args.functions.now (subst (λ (x : O.Operand). SoundOperand (operand_of k x) c.args.functions.now) c.in-Plain.is c.requires.sound)

pub pattern_value-requires-clause-given : goal.pattern_value-requires-clause-given
pattern_value-requires-clause-given c =
    let k = source c.args.text in
    pattern-if k c.in-Pattern.tick c.in-Pattern.times c.in-Pattern.items c.args.t.now c.args.functions.now c.fitted-made.result
    (subst (λ (x : O.Operand). SoundOperand (operand_of k x) c.args.functions.now) c.in-Pattern.is c.requires.sound) c.requires.full
    (subst (λ (q : Parts). Gives c.fitted-made.result (fitted_in k (pattern_of k q) c.in-Pattern.tick c.args.t.now)) c.listed.ensures c.fitted-made.ensures)

pub returns-in-Plain : goal.returns-in-Plain
returns-in-Plain c =
    let k = source c.args.text in
    let r = c.plain_value.result in
    subst (λ (x : O.Operand). Gives r (of_type k c.args.of c.args.t.now (operand_of k x) c.args.functions.now)) (sym c.in-Plain.is)
    (type-plain k c.args.of c.args.t.now c.args.functions.now c.in-Plain.v r c.plain_value.ensures)

pub returns-in-Pattern : goal.returns-in-Pattern
returns-in-Pattern c =
    let k = source c.args.text in
    let r = c.pattern_value.result in
    subst (λ (x : O.Operand). Gives r (of_type k c.args.of c.args.t.now (operand_of k x) c.args.functions.now)) (sym c.in-Pattern.is)
    (type-pattern k c.args.of c.args.t.now c.args.functions.now c.in-Pattern.tick c.in-Pattern.times c.in-Pattern.items r
    (c.pattern_value.ensures (fitted_in k (pattern_of k (record { tick = c.in-Pattern.tick; times = c.in-Pattern.times; items = c.in-Pattern.items })) c.in-Pattern.tick c.args.t.now)
    (subst (λ (q : Parts). Gives c.fitted-made.result (fitted_in k (pattern_of k q) c.in-Pattern.tick c.args.t.now)) c.listed.ensures c.fitted-made.ensures)))

pub returns-in-Stream : goal.returns-in-Stream
returns-in-Stream c =
    let k = source c.args.text in
    let r = c.stream_value.result in
    subst (λ (x : O.Operand). Gives r (of_type k c.args.of c.args.t.now (operand_of k x) c.args.functions.now)) (sym c.in-Stream.is)
    (type-stream k c.args.of c.args.t.now c.args.functions.now c.in-Stream.v r c.stream_value.ensures)
