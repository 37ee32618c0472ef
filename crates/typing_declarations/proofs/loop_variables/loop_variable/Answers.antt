use Rattle.typing_parts.proofs.Keeping.{extends-then}
use Rattle.typing_scopes.specs.Scopes.{context_of}
use Rattle.typing_declarations.proofs.Starting.{variable-types}
use Rattle.typing_declarations.proofs.loop_variables.loop_variable.Goals as goal

pub returns-clause-value : goal.returns-clause-value
returns-clause-value g c =
    variable-types (context_of g.B.Names.context c.args.names.now) c.args.start.now c.args.known.now.functions c.loop_type-of.new.known.functions c.first_value-first.new.known.functions c.loop_type-of.result c.first_value-first.result
    c.variable_at.result c.variable_at.ensures c.loop_type-of.ensures.value c.first_value-first.ensures.value

pub returns-clause-keeps : goal.returns-clause-keeps
returns-clause-keeps g c = extends-then _ _ _ c.loop_type-of.ensures.keeps c.first_value-first.ensures.keeps
