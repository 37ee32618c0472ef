use Rattle.std.proofs.Common.{◌≡◌, ◌+◌, OnOk, sym, subst, arith}
use Rattle.name_events.proofs.Deeper.{one-deeper}
use Rattle.name_events.proofs.statements.+stmt.Goals as goal

pub stmt-returns-in-Some : goal.stmt-returns-in-Some
stmt-returns-in-Some t c =
    let down = c.in-Some.ensures in
    let one : c.args.depth ≡ c.in-Some.inner + 1 = omega arith in
    subst (λ o. OnOk c.stmt_around.result (c.stmt_around.new.to ≡ o)) (sym (one-deeper c.args.depth c.in-Some.inner c.args.around c.args.one.now c.args.to.now one)) c.stmt_around.ensures
