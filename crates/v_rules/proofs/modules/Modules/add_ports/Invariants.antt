use Rattle.std.proofs.Common.{◌≡◌, drop}
use Rattle.v_rules.specs.Tables.{numbers_in, ports_added, ports_in}
use Rattle.v_rules.proofs.modules.Modules.add_ports.Given as goal

abbrev pub invariant-loop-module : goal.invariant-loop-module
invariant-loop-module l =
    (ports_added (drop l.module-index l.modules) (ports_in l.self) ≡ ports_added l.fn.modules (ports_in l.fn.self)) × (numbers_in l.self ≡ numbers_in l.fn.self)
