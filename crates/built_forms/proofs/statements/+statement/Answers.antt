use Rattle.std.proofs.Common.{◌≡◌, ◌+◌, IfOk, sym, subst, arith}
use Rattle.built_forms.proofs.Gathering.{one-deeper}
use Rattle.built_forms.proofs.statements.+statement.Goals as goal

pub stmt-returns-in-Some : goal.stmt-returns-in-Some
stmt-returns-in-Some t c =
    let down = c.in-Some.ensures in
    let one : c.args.depth ≡ c.in-Some.inner + 1 = omega arith in
    subst (λ o. IfOk c.stmt_around.result (λ s. s ≡ o)) (sym (one-deeper c.args.tokens.now c.args.later c.args.depth c.in-Some.inner c.args.stmt.now one)) c.stmt_around.ensures
