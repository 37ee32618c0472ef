use Rattle.typing_paths.proofs.Levels.{by-range}
use Rattle.typing_paths.proofs.written.dimension.Goals as goal

pub returns-in-Range-clause-value : goal.returns-in-Range-clause-value
returns-in-Range-clause-value g c =
    by-range (g.S.Names.context c.args.names.now) c.args.d.now c.in-Range.opening c.in-Range.colon c.in-Range.closing c.in-Range.left c.in-Range.right c.range.result
    c.args.known.now.functions c.range.new.known.functions c.in-Range.is c.range.ensures.value
