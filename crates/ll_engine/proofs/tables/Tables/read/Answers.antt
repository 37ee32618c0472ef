use Rattle.std.proofs.Common.{◌≡◌, ◌+◌, ◌<◌, suc, Some, None, [], ◌∷◌, refl, ◌∙◌, ap, subst, length, slice_get, add-one, arith}
use Rattle.std.proofs.lemmas.Result.{err_from_is_err_and}
use Rattle.ll_engine.specs.Machine.{levels_of, fresh}
use Rattle.ll_engine.specs.Steps.{row_for}
use Rattle.ll_engine.proofs.Progress.{Progress, takes}
use Rattle.ll_engine.proofs.Start.{start_fails, starts}
use Rattle.ll_engine.proofs.Gives.{slice_get_or, symbol_fails, end_gives}
use Rattle.ll_engine.proofs.tables.Tables.read.Goals as goal

pub returns-in_default : goal.returns-in_default
returns-in_default c =
    let t = c.args.self.now.rows in
    let s = c.source-head.ensures in
    let e : c.copied-first.result ≡ slice_get c.args.symbols.now 0 = cc (c.copied-first.ensures, c.first.ensures.value) in
    start_fails t c.args.self.now.heads c.requires.knows c.source-head.result c.args.limit c.args.symbols.now s.0 s.1
    (subst (λ q. row_for c.args.self.now.heads c.source-head.result q ≡ None) e c.in_default.ensures)

pub loop-at-init : goal.loop-at-init
loop-at-init c =
    let t = c.args.self.now.rows in
    let s = c.source-head.ensures in
    let e : c.copied-first.result ≡ slice_get c.args.symbols.now 0 = cc (c.copied-first.ensures, c.first.ensures.value) in
    let m = c.in-Some.ensures in
    let room : c.from-room.result + 1 ≡ suc c.args.limit = omega (arith, c.from-room.ensures) in
    starts t c.args.self.now.heads c.requires.knows c.source-head.result c.args.limit c.args.symbols.now s.0 s.1
    m.0 (levels_of t c.in-Some.state)
    (subst (λ q. row_for c.args.self.now.heads c.source-head.result q ≡ Some m.0) e m.1)
    (m.2 ∙ ap (λ q. fresh t m.0 q ∷ []) room)

pub returns-in_err-read_symbol : goal.returns-in_err-read_symbol
returns-in_err-read_symbol c =
    let t = c.args.self.now.rows in
    let inside : c.loop-at.at < length c.args.symbols.now = omega arith in
    let m = symbol_fails t c.args.self.now.heads c.requires.knows c.source-head.result c.args.limit c.args.symbols.now
    c.loop-at.at _ (levels_of t c.loop-at.state) (levels_of t c.read_symbol.new.state) _ c.loop-at.invariant
    (slice_get_or c.loop-at.at 0 c.args.symbols.now inside) inside c.in_err-read_symbol.ensures in
    let p = err_from_is_err_and c.from_residual.result c.from_residual.ensures.1 in
    rw (p.1, p.2) m

pub loop-at-preserved : goal.loop-at-preserved
loop-at-preserved c =
    let t = c.args.self.now.rows in
    let inside : c.loop-at.at < length c.args.symbols.now = omega arith in
    rw add-one (takes t c.args.self.now.heads c.requires.knows c.source-head.result c.args.limit c.args.symbols.now
    c.loop-at.at _ (levels_of t c.loop-at.state) (levels_of t c.read_symbol.new.state) c.loop-at.invariant
    (slice_get_or c.loop-at.at 0 c.args.symbols.now inside) (c.in_ok-read_symbol.ensures))

pub returns : goal.returns
returns c =
    let t = c.args.self.now.rows in
    let all : c.loop-at.at ≡ length c.args.symbols.now = omega arith in
    end_gives t c.args.self.now.heads c.requires.knows c.source-head.result c.args.limit c.args.symbols.now
    (length c.args.symbols.now) (levels_of t c.loop-at.state) c.read_end.result refl
    (subst (λ q. Progress t c.source-head.result c.args.limit c.args.symbols.now q (levels_of t c.loop-at.state)) all c.loop-at.invariant)
    c.read_end.ensures
