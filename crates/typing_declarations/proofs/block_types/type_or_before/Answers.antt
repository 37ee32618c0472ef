use Rattle.std.proofs.Common.{Ok, sym, ◌∙◌, subst}
use Rattle.typing_calls.specs.Lists.{as_meant}
use Rattle.typing_scopes.specs.Scopes.{context_of}
use Rattle.typing_declarations.specs.Kinds.{written_of}
use Rattle.typing_declarations.proofs.Making.{before-types, other-types}
use Rattle.typing_declarations.proofs.block_types.type_or_before.Goals as goal

pub returns-then-is_unwritten-clause-value : goal.returns-then-is_unwritten-clause-value
returns-then-is_unwritten-clause-value g c =
    before-types (context_of g.B.Names.context c.args.names.now) (written_of c.args.before) c.args.of.now c.args.known.now.functions (sym c.is_unwritten.ensures ∙ c.if-is_unwritten.true)

pub returns-clause-value : goal.returns-clause-value
returns-clause-value g c =
    let k = context_of g.B.Names.context c.args.names.now in
    let fs = c.args.known.now.functions in
    let gs = c.sign_or_type.new.known.functions in
    other-types k (written_of c.args.before) c.args.of.now c.sign_alone.result (as_meant written_of c.sign_or_type.result) fs gs (sym c.is_unwritten.ensures ∙ c.if-is_unwritten.false) c.sign_alone.ensures c.sign_or_type.ensures.value
