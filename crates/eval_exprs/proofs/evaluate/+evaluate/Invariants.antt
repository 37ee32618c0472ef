use Rattle.std.proofs.Common.{◌≡◌, ◌+◌, ◌*◌, ◌++◌, map, drop}
use Rattle.eval_parts.specs.Surroundings.{running}
use Rattle.eval_parts.proofs.Nodes.{nodes}
use Rattle.eval_forms.specs.Asked.{asked, all_bits, values_asked, AllFitAsked}
use Rattle.eval_forms.proofs.AskedLaws.{AllFewer}
use Rattle.eval_exprs.specs.Held.{around, formals}
use Rattle.eval_exprs.proofs.Turns.{StillReady}
use Rattle.eval_exprs.proofs.Operators.{asks}
use Rattle.eval_exprs.proofs.evaluate.+evaluate.Given as goal

abbrev pub decreases-bits : goal.decreases-bits
decreases-bits g l = 5 * nodes l.e.now + 3

abbrev pub decreases-form_bits : goal.decreases-form_bits
decreases-form_bits g l = 5 * nodes l.e.now + 2

abbrev pub decreases-operand_bits : goal.decreases-operand_bits
decreases-operand_bits g l = 5 * nodes l.e.now + 1

abbrev pub decreases-answer : goal.decreases-answer
decreases-answer g l = 5 * nodes l.operand.of.now + 4

abbrev pub decreases-find : goal.decreases-find
decreases-find g l = 5 * nodes l.e.now + 4

abbrev pub decreases-follow : goal.decreases-follow
decreases-follow g l = 5 * nodes l.e.now + 2

abbrev pub invariant-operand_bits-loop-operand : goal.invariant-operand_bits-loop-operand
invariant-operand_bits-loop-operand g l =
    let all = asks l.e (formals l.held.scope) l.width l.signed in
    let qs = map asked (drop l.operand-index l.operand-items) in
    let a = around l.held in
    record {
      fits : AllFitAsked (formals l.held.scope) qs;
      fewer : AllFewer (nodes l.e) qs;
      ready : StillReady l.operand-index qs a l.start l.budget;
      made : l.values.items ++ all_bits qs a ≡ all_bits all a;
      runs : values_asked qs a (running l.budget) ≡ values_asked all a (running l.start);
    }
