use Rattle.std.proofs.Common.{◌≡◌, ◌++◌, ℕ, List, IfOk, ap, ◌∙◌, subst}
use Rattle.typing_stmts.proofs.Naming.{at-top, in-block}
use Rattle.typing_stmts.proofs.routine_paths.function_path.Goals as goal

pub returns-then-is_empty : goal.returns-then-is_empty
returns-then-is_empty c =
    subst (λ (w : List ℕ). IfOk c.copy.result (λ p. p ≡ w)) (at-top c.args.block c.args.name.now (c.is_empty.ensures.0 c.if-is_empty.true)) c.copy.ensures

pub returns : goal.returns
returns c =
    in-block c.args.block c.args.name.now c.push.new.self c.push_bytes.new.self (λ e. let x = c.is_empty.ensures.1 e in let y = c.if-is_empty.false in absurd (cc (x, y))) c.in_ok-push.ensures.ok
    (c.in_ok-push_bytes.ensures.ok ∙ ap (λ (x : List ℕ). c.push.new.self ++ x) c.as_bytes.ensures)
