use Rattle.std.proofs.Common.{Some}
use Rattle.v_scopes.specs.declared.entry.Entry.TheVariants as N
use Rattle.v_scopes.proofs.Undoing.{within-both, within-more}
use Rattle.v_item_rules.proofs.functions.enter_function.Goals as goal

pub returns-clause-within : goal.returns-clause-within
returns-clause-within c =
    within-more c.args.scope.now c.declare_locals-2.new.scope c.declare.new.self c.args.function.now.name (Some (N.Result c.args.function.now.range c.args.item))
    (within-both c.args.scope.now c.declare_locals.new.scope c.declare_locals-2.new.scope
    (within-both c.args.scope.now c.declare_parts.new.scope c.declare_locals.new.scope c.in_ok-declare_parts.ensures.within c.in_ok-declare_locals.ensures.within)
    c.in_ok-declare_locals-2.ensures.within)
    c.in_ok-declare.ensures.declares c.in_ok-declare.ensures.hides
