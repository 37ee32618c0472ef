use Rattle.std.proofs.Common.{Err, ap, ◌∙◌}
use Rattle.std.proofs.lemmas.Result.{err_from_is_err_and}
use Rattle.expr_flows.specs.Known.{sight}
use Rattle.stmt_flows.specs.Turns.{loop_of}
use Rattle.stmt_flows.proofs.Turning as T
use Rattle.stmt_flows.proofs.turns.all_turns.Goals as goal

pub returns-then-turned : goal.returns-then-turned
returns-then-turned c = λ b h a. (
  c.in_ok-found.ensures.known,
  T.ends-all c.in_ok-found.found c.args.turned (loop_of c.args.control b) h (sight c.args.known) c.if-turned.true a c.in_ok-found.ensures.flow,
)

pub returns-in_err-last : goal.returns-in_err-last
returns-in_err-last c = λ b h a.
    let p = err_from_is_err_and c.from_residual-in_err-last.result c.from_residual-in_err-last.ensures.1 in
    let l = loop_of c.args.control b in
    T.final-fails c.from_residual-in_err-last.result c.in_err-last.field-0.0 l h (sight c.args.known) (p.1 ∙ ap Err p.2) (T.later-of c.args.turned l h (sight c.args.known) c.if-turned.false a) (c.in_err-last.ensures.gives b)

pub returns : goal.returns
returns c = λ b h a.
    let l = loop_of c.args.control b in (
      c.in_ok-caught.ensures.known,
      T.goes-all c.in_ok-caught.caught c.in_ok-last.last c.in_ok-all.all c.args.turned l h (sight c.args.known) c.if-turned.false a (c.in_ok-last.ensures.gives b).1 c.in_ok-all.ensures.flow c.in_ok-caught.ensures.flow,
    )
