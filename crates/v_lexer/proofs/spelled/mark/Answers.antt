use Rattle.std.proofs.Common.{refl}
use Rattle.v_lexer.proofs.Marks.{mark-at, longest-is}
use Rattle.v_lexer.proofs.spelled.mark.Goals as goal

pub returns-in-Some : goal.returns-in-Some
returns-in-Some c = mark-at c.args.text.now c.in-Some.place (c.in-Some.ensures.within c.in-Some.place refl) (longest-is c.args.text.now _ (c.in-Some.ensures.some c.in-Some.place refl))
