use Rattle.std.proofs.Common.{map}
use Rattle.v_meaning.specs.Statements.{item_values}
use Rattle.v_meaning.specs.Values.{meaning}
use Rattle.v_eval.specs.Holding.{holds}
use Rattle.v_eval.specs.Scopes.{scope_of}
use Rattle.v_exec.specs.Choices.{item_of}
use Rattle.v_exec.proofs.Choosing.{selected}
use Rattle.v_exec.proofs.selectors.selector_at.Goals as goal

pub returns-clause-selector : goal.returns-clause-selector
returns-clause-selector g c =
    selected c.args.kind (meaning c.args.on.now) (item_values (map item_of c.args.items.now)) c.in_ok-at.at c.in_ok-own.field-0 c.in_ok-value.value (scope_of c.args.around.scope) (holds c.args.around.held) c.in_ok-own.ensures.meaning
    c.in_ok-at.ensures.meaning c.in_ok-value.ensures.value
