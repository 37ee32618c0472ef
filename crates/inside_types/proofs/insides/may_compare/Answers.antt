use Rattle.expr_type.specs.Answers.{source}
use Rattle.inside_types.proofs.Rules.{none-breaks, unpacked-breaks, wide-breaks}
use Rattle.inside_types.proofs.insides.may_compare.Goals as goal

pub returns-then-is_unpacked_among : goal.returns-then-is_unpacked_among
returns-then-is_unpacked_among c = unpacked-breaks (source c.args.text) c.args.at c.args.parts.now.value c.args.parts.now.items (cc)

pub returns-in-Some : goal.returns-in-Some
returns-in-Some c =
    wide-breaks (source c.args.text) c.args.at c.in-Some.wide c.args.parts.now.value c.args.parts.now.items (cc) (cc c.in-Some.ensures)

pub returns-in-None : goal.returns-in-None
returns-in-None c = none-breaks (source c.args.text) c.args.at c.args.parts.now.value c.args.parts.now.items (cc) (cc c.in-None.ensures)
