use Rattle.std.proofs.Common.{[], sym, ◌∙◌}
use Rattle.v_zero.proofs.Starting.{got-none, got-some}
use Rattle.v_zero.proofs.start.marks_at.Goals as goal

pub returns-in-None : goal.returns-in-None
returns-in-None c = sym (got-none c.args.all.now c.args.n [] (sym c.in-None.ensures))

pub returns-in-Some : goal.returns-in-Some
returns-in-Some c = c.as_slice.ensures ∙ sym (got-some c.args.all.now c.args.n [] _ (sym c.in-Some.ensures))
