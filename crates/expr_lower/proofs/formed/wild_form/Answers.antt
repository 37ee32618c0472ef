use Rattle.std.proofs.Common.{ap}
use Rattle.v_meaning.specs.Values as T
use Rattle.v_build.specs.Trees.{meanings}
use Rattle.expr_lower.proofs.Standing.{combines-Wild}
use Rattle.expr_lower.proofs.formed.wild_form.Goals as goal

pub returns-clause-combines : goal.returns-clause-combines
returns-clause-combines c =
    combines-Wild c.args.e.now c.args.negated c.args.x.now c.args.y.now c.wild_equal.new.helpers (meanings c.args.parts) (T.meaning c.two-operands.result.left) (T.meaning c.two-operands.result.right)
    (T.meaning c.in_ok-made.made) c.requires.form (ap meanings c.two-operands.ensures) c.in_ok-made.ensures.equals
