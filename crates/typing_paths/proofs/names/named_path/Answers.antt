use Rattle.typing_paths.proofs.Naming.{by-constant, by-local, by-signal}
use Rattle.typing_paths.proofs.names.named_path.Goals as goal

pub returns-in-Signal-clause-value : goal.returns-in-Signal-clause-value
returns-in-Signal-clause-value g c =
    by-signal (g.S.Names.context c.args.names.now) c.args.of c.args.selects.now c.in-Signal.field-0 c.in-Signal.field-1.now c.value_path.result
    c.args.known.now.functions c.value_path.new.known.functions c.in-Signal.ensures c.value_path.ensures.value

pub returns-in-Local-clause-value : goal.returns-in-Local-clause-value
returns-in-Local-clause-value g c =
    by-local (g.S.Names.context c.args.names.now) c.args.of c.args.selects.now c.in-Local.field-0 c.in-Local.field-1.now c.value_path-in-Local.result
    c.args.known.now.functions c.value_path-in-Local.new.known.functions c.in-Local.ensures c.value_path-in-Local.ensures.value

pub returns-in-Constant-clause-value : goal.returns-in-Constant-clause-value
returns-in-Constant-clause-value g c =
    by-constant (g.S.Names.context c.args.names.now) c.args.of c.args.selects.now c.in-Constant.field-0.now c.in-Constant.field-1.now c.value_path-in-Constant.result
    c.args.known.now.functions c.value_path-in-Constant.new.known.functions c.in-Constant.ensures c.value_path-in-Constant.ensures.value
