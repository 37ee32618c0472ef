use Rattle.std.proofs.Common.{◌≡◌, map, reverse}
use Rattle.ll_engine.specs.Machine.{level_of}
use Rattle.ll_engine.proofs.Steps.{stuck_symbol}
use Rattle.ll_engine.proofs.tables.Tables.step_symbol.Goals as goal

pub returns-in-None : goal.returns-in-None
returns-in-None c =
    let t = c.args.self.now.rows in
    let is = c.in-None.is in
    stuck_symbol t c.args.self.now.heads c.requires.knows (level_of t c.args.state.now.top)
    (map (level_of t) (reverse c.args.state.now.below.items)) c.args.symbol c.args.token c.requires.next (λ e. cc)

pub returns-else-next-symbol : goal.returns-else-next-symbol
returns-else-next-symbol c =
    let t = c.args.self.now.rows in
    let is = c.in-Some.is in
    let differ = c.if-next-symbol.false in
    stuck_symbol t c.args.self.now.heads c.requires.knows (level_of t c.args.state.now.top)
    (map (level_of t) (reverse c.args.state.now.below.items)) c.args.symbol c.args.token c.requires.next
    (λ e. let f : c.in-Some.next ≡ c.args.symbol = cc in c.if-next-symbol.false f)
