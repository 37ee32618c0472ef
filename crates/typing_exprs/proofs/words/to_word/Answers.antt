use Rattle.typing_values.specs.Parts.{type_of_word}
use Rattle.typing_exprs.proofs.words.to_word.Goals as goal

pub returns-clause-value : goal.returns-clause-value
returns-clause-value g c =
    let k = g.S.Names.context c.args.names.now in
    c.by_type.ensures.value (type_of_word k c.args.of c.args.packed.now) c.args.known.now.functions c.type_of_word-t.ensures.value
