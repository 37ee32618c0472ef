use Rattle.typing_scopes.specs.Scopes.{context_of}
use Rattle.typing_stmts.proofs.Made.{function-is, function-stops}
use Rattle.typing_stmts.proofs.parts.whole_result.Goals as goal

pub returns-in-Ok-clause-value : goal.returns-in-Ok-clause-value
returns-in-Ok-clause-value g c h x fs known is =
    let found = c.args.found in
    function-is (context_of g.B.Names.context c.args.outer.now) h c.args.name x c.args.list.now c.args.items.now c.function_of.result c.args.identity found.plain found.of found.names c.in-Ok.parts fs c.with_result.new.known.functions
    c.function_of.ensures known (c.in-Ok.ensures.value x fs is)

pub returns-in-Err-clause-value : goal.returns-in-Err-clause-value
returns-in-Err-clause-value g c h x fs known is =
    function-stops (context_of g.B.Names.context c.args.outer.now) h c.args.name x c.args.list.now c.args.items.now fs c.with_result.new.known.functions c.in-Err.halt (c.in-Err.ensures.value x fs is)
