use Rattle.std.proofs.Common.{map, reverse, sym}
use Rattle.ll_engine.specs.Machine.{level_of, levels_of}
use Rattle.ll_engine.proofs.Steps.{move_skip, move_enter}
use Rattle.ll_engine.proofs.tables.Tables.step_optional.Goals as goal

pub returns-in-None : goal.returns-in-None
returns-in-None c =
    let t = c.args.self.now.rows in
    move_skip t c.args.self.now.heads c.requires.knows (level_of t c.args.state.now.top)
    (map (level_of t) (reverse c.args.state.now.below.items)) (levels_of t c.skip.new.state)
    c.args.part c.args.head c.args.token c.requires.next c.requires.head c.requires.optional
    (sym c.in-None.ensures) c.skip.ensures

pub returns-in_ok-enter-in-Some : goal.returns-in_ok-enter-in-Some
returns-in_ok-enter-in-Some c =
    let t = c.args.self.now.rows in
    move_enter t c.args.self.now.heads c.requires.knows (level_of t c.args.state.now.top)
    (map (level_of t) (reverse c.args.state.now.below.items)) (levels_of t c.enter.new.state)
    c.args.part c.args.head c.in-Some.row c.args.token c.requires.stack c.requires.next c.requires.head
    (sym c.in-Some.ensures) c.in_ok-enter-in-Some.ensures
