use Rattle.expr_type.specs.Answers.{source}
use Rattle.typing_scopes.specs.Scopes.{context_of}
use Rattle.typing_declarations.proofs.Declaring.{found-by}
use Rattle.typing_declarations.proofs.enums.enum_found.Goals as goal

pub returns : goal.returns
returns g c =
    found-by (context_of g.B.Names.context c.args.names.now) (source c.text.result) c.args.keyword c.args.base c.in_ok-new.field-0 c.in_ok-list.list c.args.met.now c.in_ok-names.names c.text.ensures c.in_ok-new.ensures c.in_ok-list.ensures c.in_ok-names.ensures c.requires.bits
