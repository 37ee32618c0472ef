use Rattle.expr_type.specs.Answers.{source}
use Rattle.pattern_types.specs.Meaning.{parts_in}
use Rattle.typing_patterns.proofs.Fitting.{pattern-whole}
use Rattle.typing_patterns.proofs.types.pattern_of_type.Goals as goal

pub returns-in-Pattern : goal.returns-in-Pattern
returns-in-Pattern c =
    pattern-whole (source c.args.text) c.args.first c.args.t.now c.args.of (parts_in c.listed.result) c.in-Pattern.tick c.in-Pattern.times c.in-Pattern.items c.fitted-made.result c.whole_pattern.result
    c.in-Pattern.is c.listed.ensures c.fitted-made.ensures c.whole_pattern.ensures
