use Rattle.std.proofs.Common.{rules, ◌<◌, length, refl, arith, subst}
use Rattle.v_eval.specs.Windows.{window_of}
use Rattle.v_run.specs.Writes.{InsideWritten}
use Rattle.v_run.proofs.PutOver.{slot-there, widths-put, present-put, absent-put, local-put}
use Rattle.v_run.proofs.over.put_signal.Goals as goal
use Rattle.v_run.proofs.over.put_signal.Goals.{else-piece-lt4294967296-via-then-piece-lt4294967296+else-n-to, else-piece-lt4294967296-via-else-piece-lt4294967296}

pub returns-then-n-to-clause-widths : goal.returns-then-n-to-clause-widths
returns-then-n-to-clause-widths c =
    let to = c.args.to.now in
    let p = c.args.piece.now in
    let there : p.number < length to = search rules in
    let slot = slot-there to p.number c.index-to-n.result there in
    widths-put to _ p.number c.write_inside.new.held (window_of p.window) p.bits refl (subst (λ v. InsideWritten v c.write_inside.new.held (window_of p.window) p.bits) slot c.write_inside.ensures)

pub returns-then-n-to-clause-values : goal.returns-then-n-to-clause-values
returns-then-n-to-clause-values c =
    let to = c.args.to.now in
    let p = c.args.piece.now in
    let there : p.number < length to = search rules in
    let slot = slot-there to p.number c.index-to-n.result there in
    present-put to p.number c.write_inside.new.held (window_of p.window) p.bits there (subst (λ v. InsideWritten v c.write_inside.new.held (window_of p.window) p.bits) slot c.write_inside.ensures)

pub returns-else-piece-lt4294967296-clause-values : goal.returns-else-piece-lt4294967296-clause-values
returns-else-piece-lt4294967296-clause-values c =
    let to = c.args.to.now in
    let p = c.args.piece.now in
    elim c.else-piece-lt4294967296.branch [
      | else-piece-lt4294967296-via-then-piece-lt4294967296+else-n-to w ↦ absent-put to p.number (window_of p.window) p.bits (omega (arith, w.if-n-to.false))
      | else-piece-lt4294967296-via-else-piece-lt4294967296 w ↦ λ inside. local-put p.number (window_of p.window) p.bits _ (omega (arith, w.if-piece-lt4294967296.false))
    ]
