use Rattle.std.proofs.Common.{sym, ◌∙◌}
use Rattle.v_lexer.proofs.Marks.{found-cut, found-within, found-some, stray-cut}
use Rattle.v_lexer.proofs.piece.longer_mark.Goals as goal

pub overflow_sub-result : goal.overflow_sub-result
overflow_sub-result c = found-some c.args.bytes.now c.in-Some.symbol c.in-Some.size (sym c.in-Some.is ∙ c.mark.ensures)

pub returns-in-Some-clause-value : goal.returns-in-Some-clause-value
returns-in-Some-clause-value c = found-cut c.args.bytes.now c.in-Some.symbol c.in-Some.size (sym c.in-Some.is ∙ c.mark.ensures)

pub returns-in-Some-clause-within : goal.returns-in-Some-clause-within
returns-in-Some-clause-within c = found-within c.args.bytes.now c.in-Some.symbol c.in-Some.size c.requires.some (sym c.in-Some.is ∙ c.mark.ensures)

pub returns-in-None-clause-value : goal.returns-in-None-clause-value
returns-in-None-clause-value c = c.stray.ensures ∙ stray-cut c.args.bytes.now (sym c.in-None.is ∙ c.mark.ensures)
