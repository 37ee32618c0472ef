use Rattle.std.proofs.Common.{refl}
use Rattle.v_meaning.specs.Values.{meaning}
use Rattle.path_flatten.specs.declared.readings.Root.TheVariants as R
use Rattle.path_flatten.proofs.Naming.{root-braced}
use Rattle.path_flatten.proofs.Stepping.{whole-sound, value-reads}
use Rattle.path_flatten.proofs.steps.whole_value.Goals as goal

pub returns-clause-sound : goal.returns-clause-sound
returns-clause-sound c = whole-sound (record { root = R.Value c.in_ok-braces.braces; width = c.args.width; window = c.entire.result }) c.args.width c.entire.ensures.near refl c.entire.ensures.window

pub returns-clause-reads : goal.returns-clause-reads
returns-clause-reads c =
    value-reads (meaning c.args.value) c.in_ok-braces.braces c.args.width (record { root = R.Value c.in_ok-braces.braces; width = c.args.width; window = c.entire.result }) refl c.in_ok-braces.ensures refl
    c.entire.ensures.window

pub returns-clause-names : goal.returns-clause-names
returns-clause-names c = root-braced (meaning c.args.value) c.in_ok-braces.braces (R.Value c.in_ok-braces.braces) refl c.in_ok-braces.ensures
