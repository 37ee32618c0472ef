use Rattle.std.proofs.Common.{None, refl}
use Rattle.memory_words.proofs.Finding.{free-finds}
use Rattle.memory_words.proofs.words.word_up_to.Goals as goal

pub returns-then-all_are_words-clause-word : goal.returns-then-all_are_words-clause-word
returns-then-all_are_words-clause-word c = free-finds c.args.index c.args.last (record { guard = None; rank = c.args.index.expr }) c.requires.unsigned c.if-all_are_words.ensures refl refl
