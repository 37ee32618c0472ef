use Rattle.std.proofs.Common.{◌≡◌, List, OnOk, subst, sym}
use Rattle.v_scopes.specs.Env.{found}
use Rattle.v_stmt_rules.specs.Labels.{Adds}
use Rattle.v_stmt_rules.specs.Stmts.{block_given}
use Rattle.v_functions.proofs.Labels.{labels_same}
use Rattle.v_functions.proofs.statements.block_entered.Goals as goal

pub returns-clause-declares : goal.returns-clause-declares
returns-clause-declares c =
    subst (λ (ls : List Adds). OnOk c.enter_block.result (found c.enter_block.new.scope ≡ block_given c.args.label.now.locals ls (found c.args.scope.now)))
    (sym (labels_same c.args.stmts.now)) c.enter_block.ensures.declares
