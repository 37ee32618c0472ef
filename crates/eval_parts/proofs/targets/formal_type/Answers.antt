use Rattle.std.proofs.Common.{arith}
use Rattle.eval_parts.proofs.Elements.{formal-there, formal-past, formal-narrow}
use Rattle.eval_parts.proofs.targets.formal_type.Goals as goal

pub returns-then-i-formals : goal.returns-then-i-formals
returns-then-i-formals c =
    let fs = c.args.formals.now in
    (formal-there fs c.args.i c.index-formals-i.result (omega arith), formal-narrow fs c.args.i c.index-formals-i.result (omega arith) c.requires)

pub returns-else-i-formals : goal.returns-else-i-formals
returns-else-i-formals c = formal-past c.args.formals.now c.args.i (omega arith)
