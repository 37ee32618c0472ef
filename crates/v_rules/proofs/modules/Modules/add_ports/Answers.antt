use Rattle.std.proofs.Common.{ap, ◌∙◌, List}
use Rattle.v_tree.specs.declared.items.VItem.{VItem}
use Rattle.v_stmt_rules.specs.Stmts.{nothing}
use Rattle.v_rules.specs.ModuleNames.{ports_given}
use Rattle.v_rules.specs.Tables.{ports_added, ports_in}
use Rattle.v_rules.proofs.Tabling.{add-step}
use Rattle.v_rules.proofs.modules.Modules.add_ports.Goals as goal

pub loop-module-preserved : goal.loop-module-preserved
loop-module-preserved c = (
  add-step c.args.modules.now c.loop-module.module-index c.module-item.result c.loop-module.self.ports c.push.new.self c.in_ok-module_ports.field-0
      (ports_added c.args.modules.now (ports_in c.args.self.now)) c.loop-module-test.true c.module-item.is
      (c.in_ok-module_ports.ensures ∙ ap (λ (is : List VItem). ports_given is nothing) c.as_slice.ensures) c.in_ok-push.ensures.ok c.loop-module.invariant.0,
  c.loop-module.invariant.1,
)
