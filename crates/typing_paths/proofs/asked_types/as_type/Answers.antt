use Rattle.std.proofs.Common.{Some}
use Rattle.expr_type.specs.Expressions.{meaning}
use Rattle.typing_paths.specs.TypingValuesParts as part
use Rattle.typing_paths.specs.Forms.{IsWord}
use Rattle.typing_paths.proofs.Asking.{as-one}
use Rattle.typing_paths.proofs.asked_types.as_type.Goals as goal

pub returns-in-Word-clause-value : goal.returns-in-Word-clause-value
returns-in-Word-clause-value g c =
    let k = g.S.Names.context c.args.names.now in
    let word : IsWord c.in-Word.of c.in-Word.packed.now c.args.e.now = c.in-Word.ensures in
    as-one ((meaning c.args.e.now).as_type k) (Some (part.type_of_word k c.in-Word.of c.in-Word.packed.now)) c.word_type.result c.args.known.now.functions
    c.word_type.new.known.functions (word.is k) c.word_type.ensures.value
