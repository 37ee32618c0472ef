use Rattle.std.proofs.Common.{map, reverse, sym}
use Rattle.ll_engine.specs.Machine.{level_of, levels_of}
use Rattle.ll_engine.proofs.Steps.{stuck_non, move_non}
use Rattle.ll_engine.proofs.tables.Tables.step_head.Goals as goal

pub returns-in-None : goal.returns-in-None
returns-in-None c =
    let t = c.args.self.now.rows in
    stuck_non t c.args.self.now.heads c.requires.knows (level_of t c.args.state.now.top)
    (map (level_of t) (reverse c.args.state.now.below.items)) c.args.head c.args.token c.requires.next
    (sym c.in-None.ensures)

pub returns-in_ok-enter-in-Some : goal.returns-in_ok-enter-in-Some
returns-in_ok-enter-in-Some c =
    let t = c.args.self.now.rows in
    move_non t c.args.self.now.heads c.requires.knows (level_of t c.args.state.now.top)
    (map (level_of t) (reverse c.args.state.now.below.items)) (levels_of t c.enter.new.state)
    c.args.head c.in-Some.row c.args.token c.requires.stack c.requires.next
    (sym c.in-Some.ensures) c.in_ok-enter-in-Some.ensures
