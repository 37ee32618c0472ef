use Rattle.body_mentions.proofs.Actions.{whole-is, calls-are}
use Rattle.body_mentions.proofs.stmts.mentions_of.Goals as goal

pub returns-clause-whole : goal.returns-clause-whole
returns-clause-whole c = whole-is c.args.stmt.now c.new.result c.new-2.result c.add_stmt.new.to c.new.ensures c.in_ok-add_stmt.ensures

pub returns-clause-calls : goal.returns-clause-calls
returns-clause-calls c = calls-are c.args.stmt.now c.new.result c.new-2.result c.add_stmt.new.to c.new-2.ensures c.in_ok-add_stmt.ensures
