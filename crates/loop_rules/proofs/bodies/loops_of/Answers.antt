use Rattle.std.proofs.Common.{sym}
use Rattle.loop_rules.proofs.Joining.{loops-are}
use Rattle.loop_rules.proofs.bodies.loops_of.Goals as goal

pub returns : goal.returns
returns c =
    let d = c.args.design.now in
    let s = c.args.s.now in
    loops-are d s c.in_ok-unbounded.unbounded _ _ c.in_ok-list.list (c.in_ok-unbounded.ensures d (sym c.as_slice-functions.ensures)) (c.in_ok-list.ensures d (sym c.as_slice-functions.ensures)) c.lesser.ensures c.is_too_long.ensures
