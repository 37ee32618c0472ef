use Rattle.eval_stmts.proofs.Assigning as A
use Rattle.eval_stmts.proofs.starts.start.Goals as goal

pub returns-in_ok-write_whole-in-None : goal.returns-in_ok-write_whole-in-None
returns-in_ok-write_whole-in-None g c = A.starts-empty c.args.scope c.args.local.now c.args.env.now c.write_whole.new.env c.in_ok-bits-in-None.bits c.in-None.is c.in_ok-bits-in-None.ensures c.in_ok-write_whole-in-None.ensures

pub returns-in_ok-write_whole-in-Some : goal.returns-in_ok-write_whole-in-Some
returns-in_ok-write_whole-in-Some g c =
    A.starts-with c.args.scope c.args.local.now c.in-Some.e c.args.env.now c.assigned_in.new.env c.write_whole-in-Some.new.env c.in_ok-bits-in-Some.bits c.in-Some.is c.in_ok-bits-in-Some.ensures.same
    c.in_ok-bits-in-Some.ensures.gives.0 c.in_ok-bits-in-Some.ensures.gives.1 c.in_ok-write_whole-in-Some.ensures
