use Rattle.typing_paths.proofs.Levels.{selects-range}
use Rattle.typing_paths.proofs.written.select_dimension.Goals as goal

pub returns-in-Range-clause-value : goal.returns-in-Range-clause-value
returns-in-Range-clause-value g c =
    selects-range (g.S.Names.context c.args.names.now) c.args.select.now c.in-Part.operator c.in-Part.opening c.in-Part.at c.in-Part.closing c.in-Part.left c.in-Part.right
    c.range.result c.args.known.now.functions c.range.new.known.functions c.in-Part.is c.in-Range.is c.range.ensures.value
