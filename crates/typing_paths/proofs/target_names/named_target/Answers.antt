use Rattle.typing_paths.proofs.TargetNaming.{by-local, by-signal, local-narrow, signal-narrow}
use Rattle.typing_paths.proofs.target_names.named_target.Goals as goal

pub signal_path-requires-clause-narrow : goal.signal_path-requires-clause-narrow
signal_path-requires-clause-narrow g c =
    signal-narrow (g.S.Names.context c.args.names.now) c.args.of c.in-Signal.n c.in-Signal.t.now c.requires.names c.in-Signal.ensures

pub local_path-requires-clause-narrow : goal.local_path-requires-clause-narrow
local_path-requires-clause-narrow g c =
    local-narrow (g.S.Names.context c.args.names.now) c.args.of c.in-Local.n c.in-Local.t.now c.requires.names c.in-Local.ensures

pub returns-in-Signal-clause-value : goal.returns-in-Signal-clause-value
returns-in-Signal-clause-value g c =
    by-signal (g.S.Names.context c.args.names.now) c.args.in_statement c.args.of c.args.selects.now c.in-Signal.n c.in-Signal.t.now c.signal_path.result
    c.args.known.now.functions c.signal_path.new.known.functions c.in-Signal.ensures c.signal_path.ensures.value

pub returns-in-Local-clause-value : goal.returns-in-Local-clause-value
returns-in-Local-clause-value g c =
    by-local (g.S.Names.context c.args.names.now) c.args.in_statement c.args.of c.args.selects.now c.in-Local.n c.in-Local.t.now c.local_path.result
    c.args.known.now.functions c.local_path.new.known.functions c.in-Local.ensures c.local_path.ensures.value
