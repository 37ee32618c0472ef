use Rattle.typing_scopes.specs.Scopes.{context_of}
use Rattle.typing_stmts.proofs.Bodied.{on-breaks, on-memory, on-quiet}
use Rattle.typing_stmts.proofs.bodies.stopped_on.Goals as goal

pub returns-in-Memory-clause-value : goal.returns-in-Memory-clause-value
returns-in-Memory-clause-value g c = on-memory (context_of g.B.Names.context c.args.outer.now) c.args.stop c.args.items.now c.args.known.now.functions c.args.known.now.functions c.in-Memory.is

pub returns-in-Breaks-clause-value : goal.returns-in-Breaks-clause-value
returns-in-Breaks-clause-value g c =
    on-breaks (context_of g.B.Names.context c.args.outer.now) c.args.stop c.in-Breaks.at c.in-Breaks.rule c.args.items.now c.args.known.now.functions c.args.known.now.functions c.in-Breaks.is

pub returns-in-Quiet-clause-value : goal.returns-in-Quiet-clause-value
returns-in-Quiet-clause-value g c =
    on-quiet (context_of g.B.Names.context c.args.outer.now) c.args.stop c.behind_quiet.result c.block.result c.args.items.now c.args.known.now.functions c.block.new.known.functions c.in-Quiet.is c.behind_quiet.ensures c.block.ensures.value
