use Rattle.std.proofs.Common.{ap}
use Rattle.v_meaning.specs.Values as T
use Rattle.v_build.specs.Trees.{meanings}
use Rattle.expr_lower.proofs.Standing.{combines-Cast}
use Rattle.expr_lower.proofs.formed.cast_form.Goals as goal

pub returns-clause-combines : goal.returns-clause-combines
returns-clause-combines c =
    combines-Cast c.args.e.now c.args.x.now c.cast.new.helpers (meanings c.args.parts) (T.meaning c.one.result) (T.meaning c.in_ok-made.made) c.requires.form (ap meanings c.one.ensures) c.in_ok-made.ensures.casts
