-- Words of memories as selects (IEEE 1364-2005 clause 4.9).
use Rattle.std.specs.Prelude.{Option, None}
use Rattle.v_meaning.specs.Selects.{SelMeaning}
use Rattle.v_meaning.specs.Values as T
use Rattle.v_meaning.specs.Values.{meaning, decimal_base, expression_base}
use Rattle.path_flatten.specs.Guards.{guard_meaning}
use Rattle.memory_targets.specs.declared.words.Word.{Word}
use Rattle.memory_targets.specs.declared.words.Word.TheVariants as W

-- the select of a word, and the condition under which it names one
abbrev pub word_sel : Word → SelMeaning
word_sel (W.Known x) = decimal_base x None
word_sel (W.Lowered r) = expression_base (meaning r.rank) None

abbrev pub word_guard : Word → Option T.Meaning
word_guard (W.Known x) = None
word_guard (W.Lowered r) = guard_meaning r.guard
