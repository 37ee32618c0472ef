use Rattle.sv_types.specs.Layouts.{layout}
use Rattle.sv_types.specs.Operators.{assigned_to, assigned_width}
use Rattle.sv_types.specs.Expressions.{meaning}
use Rattle.eval_parts.proofs.Lists.{own-narrow}
use Rattle.eval_exprs.specs.Held.{formals}
use Rattle.eval_stmts.proofs.Assigning as A
use Rattle.eval_stmts.proofs.variables.set_variable.Goals as goal

pub assigned_in-requires-clause-narrow : goal.assigned_in-requires-clause-narrow
assigned_in-requires-clause-narrow g c = let x = c.args.control.first.now in own-narrow x (formals c.args.scope) (assigned_width (layout x.of).two_state (meaning x)) c.requires.first

pub write_whole-requires : goal.write_whole-requires
write_whole-requires g c = let x = c.args.control.first.now in own-narrow x (formals c.args.scope) (assigned_width (layout x.of).two_state (meaning x)) c.requires.first

pub returns : goal.returns
returns g c =
    let marks = (layout c.args.control.first.now.of).two_state in
    let m = meaning c.args.e.now in
    A.sets c.args.scope c.args.control.local marks (λ a. assigned_to marks m a) (λ a t. m.values a t) c.args.env.now c.assigned_in.new.env c.write_whole.new.env c.in_ok-bits.bits c.in_ok-bits.ensures.same
    c.in_ok-bits.ensures.gives.0 c.in_ok-bits.ensures.gives.1 c.in_ok-write_whole.ensures
