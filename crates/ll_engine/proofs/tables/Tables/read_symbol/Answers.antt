use Rattle.std.proofs.Common.{◌<◌, Some, Ok, refl, subst, arith}
use Rattle.ll_engine.specs.Machine.{levels_of}
use Rattle.ll_engine.specs.Steps.{SettleGives, ComesTo}
use Rattle.ll_engine.proofs.tables.Tables.read_symbol.Goals as goal

pub returns-then-state-eq0 : goal.returns-then-state-eq0
returns-then-state-eq0 c =
    let t = c.args.self.now.rows in
    let r = subst (λ s. SettleGives t (Some c.args.symbol) (levels_of t c.args.state.now) (levels_of t c.settle.new.state) (Ok s)) c.in-Ready.is c.in_ok-settle.ensures in
    let m : ComesTo t (Some c.args.symbol) (levels_of t c.args.state.now) =
    record { mid = levels_of t c.settle.new.state; reaches = r.0; ready = r.1 } in
    (refl, record { comes = m; has_none = c.if-state-eq0.true })

pub returns : goal.returns
returns c =
    let t = c.args.self.now.rows in
    let r = subst (λ s. SettleGives t (Some c.args.symbol) (levels_of t c.args.state.now) (levels_of t c.settle.new.state) (Ok s)) c.in-Ready.is c.in_ok-settle.ensures in
    let m : ComesTo t (Some c.args.symbol) (levels_of t c.args.state.now) =
    record { mid = levels_of t c.settle.new.state; reaches = r.0; ready = r.1 } in
    let differ = c.if-state-eq0.false in
    let p : 0 < c.settle.new.state.top.room = omega (arith, differ) in
    record { comes = m; has_room = p; is_new = c.in_ok-take.ensures }
