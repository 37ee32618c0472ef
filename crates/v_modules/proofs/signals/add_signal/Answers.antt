use Rattle.std.proofs.Common.{◌∙◌}
use Rattle.v_meaning.specs.Modules as means
use Rattle.v_modules.proofs.Naming.{one-named}
use Rattle.v_modules.proofs.signals.add_signal.Goals as goal

pub returns-clause-named : goal.returns-clause-named
returns-clause-named c =
    one-named c.put.result c.args.signals.now.entries c.put.new.signals.entries c.in_ok-name.name c.kept.result c.in_ok-place.place (means.signal c.args.signal.now)
    (c.in_ok-name.ensures ∙ c.signal_name.ensures) (c.in_ok-place.ensures ∙ c.len.ensures.len) c.kept.ensures c.put.ensures
