use Rattle.expr_type.specs.Answers.{source}
use Rattle.pattern_types.specs.Meaning.{parts_in}
use Rattle.typing_patterns.proofs.Fitting.{pattern-cast}
use Rattle.typing_patterns.proofs.types.operand_to.Goals as goal

pub returns-in-Pattern : goal.returns-in-Pattern
returns-in-Pattern c =
    pattern-cast (source c.args.text) c.args.first c.args.tick c.args.t c.args.of (parts_in c.listed.result) c.in-Pattern.other c.in-Pattern.times c.in-Pattern.items c.fitted-made.result c.cast_pattern.result
    c.in-Pattern.is c.listed.ensures c.fitted-made.ensures c.cast_pattern.ensures
