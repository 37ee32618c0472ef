use Rattle.std.proofs.Common.{refl}
use Rattle.expr_type.specs.Answers.{source}
use Rattle.pattern_types.specs.Meaning.{parts_in}
use Rattle.pattern_types.proofs.Making.{gives-same, pattern-same}
use Rattle.pattern_types.proofs.giving.passed.Goals as goal

pub returns-in-Pattern : goal.returns-in-Pattern
returns-in-Pattern c =
    gives-same c.fitted-made.result _ _
    (pattern-same (source c.args.text) c.args.t.now c.args.v (parts_in c.listed.result) c.in-Pattern.tick c.in-Pattern.tick c.in-Pattern.times c.in-Pattern.items c.in-Pattern.is refl c.listed.ensures) c.fitted-made.ensures
