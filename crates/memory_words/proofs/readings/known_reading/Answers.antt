use Rattle.std.proofs.Common.{refl}
use Rattle.path_flatten.specs.declared.readings.Root.TheVariants as R
use Rattle.memory_words.proofs.Reading.{reads-known}
use Rattle.memory_words.proofs.Naming.{known-names}
use Rattle.memory_words.proofs.readings.known_reading.Goals as goal

pub returns-clause-reads : goal.returns-clause-reads
returns-clause-reads c =
    reads-known c.args.memory c.args.of.now c.args.index c.known_word.result (record { root = R.Value c.in_ok-value.value; width = c.bounds_of-n.result.element; window = c.entire.result }) c.in_ok-value.value
    c.bounds_of-n.result.element refl c.bounds_of-n.ensures.element refl c.entire.ensures.window c.known_word.ensures c.in_ok-value.ensures

pub returns-clause-names : goal.returns-clause-names
returns-clause-names c =
    known-names c.args.memory c.known_word.result (record { root = R.Value c.in_ok-value.value; width = c.bounds_of-n.result.element; window = c.entire.result }) c.in_ok-value.value refl c.in_ok-value.ensures
