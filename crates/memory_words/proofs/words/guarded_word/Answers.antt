use Rattle.memory_words.proofs.Finding.{guarded-finds}
use Rattle.memory_words.proofs.Naming.{guarded-rank-names}
use Rattle.memory_words.proofs.words.guarded_word.Goals as goal

pub returns-clause-word : goal.returns-clause-word
returns-clause-word c = guarded-finds c.args.index c.args.last c.in_ok-made.made c.requires.unsigned c.requires.many c.in_ok-made.ensures.rank c.in_ok-made.ensures.ranked

pub returns-clause-names : goal.returns-clause-names
returns-clause-names c = guarded-rank-names c.args.index c.args.index.width c.args.last c.in_ok-made.made c.in_ok-made.ensures.guard c.in_ok-made.ensures.rank
