use Rattle.v_scopes.proofs.Undoing.{within-both}
use Rattle.v_stmt_rules.proofs.statements.enter_block.Goals as goal

pub returns-clause-within : goal.returns-clause-within
returns-clause-within c =
    within-both c.args.scope.now c.declare_parts.new.scope c.declare_locals.new.scope c.in_ok-declare_parts.ensures.within c.in_ok-declare_locals.ensures.within
