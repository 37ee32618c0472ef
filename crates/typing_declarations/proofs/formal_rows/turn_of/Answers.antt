use Rattle.std.proofs.Common.{◌≡◌, rules, refl}
use Rattle.std.specs.Prelude.{Err}
use Rattle.expr_type.specs.declared.halt.Halt.TheVariants as H
use Rattle.typing_scopes.specs.Scopes.{context_of}
use Rattle.typing_declarations.proofs.Placing.{turn-breaks, turn-none, turn-whole}
use Rattle.typing_declarations.proofs.formal_rows.turn_of.Goals as goal

pub returns-in_ok-formal-in-Ok : goal.returns-in_ok-formal-in-Ok
returns-in_ok-formal-in-Ok g c t gs p =
    let of = g.B.Names.context in
    turn-whole (context_of of c.args.inner.now) (context_of of c.put.new.inner) c.args.found c.in-Ok.found c.in_ok-formal-in-Ok.formal c.in_ok-formal-in-Ok.before t gs c.in-Ok.is p c.in_ok-formal-in-Ok.ensures

pub returns-in-Err-Breaks : goal.returns-in-Err-Breaks
returns-in-Err-Breaks g c t gs p =
    let is : c.args.found ≡ Err (H.Breaks c.in-Err-Breaks.at c.in-Err-Breaks.rule) = search rules in
    turn-breaks (context_of g.B.Names.context c.args.inner.now) c.args.found c.in-Err-Breaks.at c.in-Err-Breaks.rule t gs is p

pub returns-in-Err-Quiet : goal.returns-in-Err-Quiet
returns-in-Err-Quiet g c t gs p =
    let is : c.args.found ≡ Err H.Quiet = search rules in
    turn-none (context_of g.B.Names.context c.args.inner.now) c.args.found c.args.way _ t gs is refl p
