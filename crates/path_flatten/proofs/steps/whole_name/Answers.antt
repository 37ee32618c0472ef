use Rattle.std.proofs.Common.{refl}
use Rattle.path_flatten.specs.declared.readings.Root.TheVariants as R
use Rattle.path_flatten.proofs.Stepping.{whole-sound, name-reads}
use Rattle.path_flatten.proofs.steps.whole_name.Goals as goal

pub returns-clause-sound : goal.returns-clause-sound
returns-clause-sound c = whole-sound (record { root = R.Name c.args.name; width = c.args.width; window = c.entire.result }) c.args.width c.entire.ensures.near refl c.entire.ensures.window

pub returns-clause-reads : goal.returns-clause-reads
returns-clause-reads c = name-reads c.args.name c.args.width (record { root = R.Name c.args.name; width = c.args.width; window = c.entire.result }) refl refl c.entire.ensures.window
