use Rattle.std.proofs.Common.{sym, ◌∙◌, subst}
use Rattle.std.specs.Prelude.{Err}
use Rattle.expr_type.specs.declared.halt.Halt.{Halt}
use Rattle.expr_type.specs.declared.operand.Valued.{Valued}
use Rattle.pattern_types.specs.Meaning.{operand_of}
use Rattle.typing_steps.specs.Steps.{StopsBy}
use Rattle.typing_parts.specs.Typists.{CalledTo}
use Rattle.typing_calls.specs.Calls.{counted_call_of, needed_of}
use Rattle.typing_calls.specs.Lists.{all_meant}
use Rattle.typing_calls.proofs.Calling.{call-quiet, same-behind}
use Rattle.typing_calls.proofs.calls.counted_call.Goals as goal

pub returns-in-Err-Quiet-clause-value : goal.returns-in-Err-Quiet-clause-value
returns-in-Err-Quiet-clause-value g c =
    let k = g.S.Names.context c.args.names.now in
    let fs = c.args.known.now.functions in
    let es = c.args.arguments.now in
    let hs = c.actuals-in-Err-Quiet.new.known.functions in
    let made = c.actuals-in-Err-Quiet.result in
    let gs = c.needed.new.known.functions in
    let quiet = subst (λ (h : Halt). CalledTo (Err h) (needed_of k c.args.of fs) gs) c.in-Err-Quiet.field-0-is c.in-Err-Quiet.ensures.value in
    subst (λ (h : Halt). StopsBy {A = Valued} h (counted_call_of k c.args.of es fs) hs) (same-behind (operand_of k.source) made ∙ sym c.behind_quiet.ensures)
    (call-quiet k c.args.of es fs gs hs (all_meant (operand_of k.source) made) quiet c.actuals-in-Err-Quiet.ensures.value)
