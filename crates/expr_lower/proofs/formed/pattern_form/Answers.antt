use Rattle.v_meaning.specs.Values as T
use Rattle.v_build.specs.Trees.{meanings}
use Rattle.expr_lower.proofs.Standing.{combines-Pattern}
use Rattle.expr_lower.proofs.formed.pattern_form.Goals as goal

pub returns-clause-combines : goal.returns-clause-combines
returns-clause-combines c =
    combines-Pattern c.args.e.now c.args.items.now c.args.width c.args.signed c.pattern.new.helpers (meanings c.args.parts) (T.meaning c.in_ok-made.made) c.requires.form c.in_ok-made.ensures.patterns
