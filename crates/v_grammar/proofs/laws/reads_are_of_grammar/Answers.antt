use Rattle.v_grammar.proofs.Derivations.{spelled-of-grammar}
use Rattle.v_grammar.proofs.laws.reads_are_of_grammar.Goals as goal

pub returns : goal.returns
returns c = spelled-of-grammar
