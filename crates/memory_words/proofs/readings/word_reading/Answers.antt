use Rattle.std.proofs.Common.{refl}
use Rattle.path_flatten.specs.declared.readings.Root.TheVariants as R
use Rattle.memory_words.proofs.Reading.{reads-word}
use Rattle.memory_words.proofs.Naming.{reading-names}
use Rattle.memory_words.proofs.readings.word_reading.Goals as goal

pub returns-clause-reads : goal.returns-clause-reads
returns-clause-reads c =
    reads-word c.args.memory c.args.of.now c.args.word (record { root = R.Value c.in_ok-value.value; width = c.bounds_of-n.result.element; window = c.entire.result }) c.in_ok-value.value
    c.bounds_of-n.result.element refl c.bounds_of-n.ensures.element refl c.entire.ensures.window c.in_ok-value.ensures

pub returns-clause-names : goal.returns-clause-names
returns-clause-names c =
    reading-names c.args.memory c.args.word (record { root = R.Value c.in_ok-value.value; width = c.bounds_of-n.result.element; window = c.entire.result }) c.in_ok-value.value refl c.in_ok-value.ensures
