use Rattle.std.proofs.Common.{refl}
use Rattle.expr_type.specs.Answers.{source}
use Rattle.expr_type.specs.Expressions.{meaning}
use Rattle.typing_values.proofs.Operands.{unstreamed-types}
use Rattle.typing_values.proofs.values.unstreamed.Goals as goal

pub returns-clause-value : goal.returns-clause-value
returns-clause-value g c =
    let k = g.S.Names.context c.args.names.now in
    unstreamed-types (source c.text.result) k.source ((meaning c.args.e.now).typed k) c.args.known.now.functions c.typed.new.arg3.functions c.typed.result c.not_streamed.result c.in_ok-o.o c.text.ensures
    c.in_ok-o.was (c.requires.can.gives _ _ _ _ refl c.typed.ensures) c.not_streamed.ensures.value
