use Rattle.std.proofs.Common.{◌≡◌, ℤ, rules, sym, subst}
use Rattle.std.proofs.lemmas.Int.{to_z-of_z}
use mir.Val.{SFits, to_z, of_z}
use mir.Syntax.{w64}
use Rattle.expr_type.specs.declared.operand.Number.{Number}
use Rattle.expr_type.specs.Answers.{Gives, source}
use Rattle.expr_type.specs.Typings.{Checked}
use Rattle.constant_types.specs.Known.{known_number}
use Rattle.constant_types.proofs.Sizes.{constant-number, constant-halts}
use Rattle.constant_types.proofs.numbers.number_in.Goals as goal

pub returns-in-Err : goal.returns-in-Err
returns-in-Err c = constant-halts c.in-Err.halt (source c.args.text) c.args.low c.args.high c.args.v.now c.args.functions.now c.in-Err.ensures

pub returns-in-Ok : goal.returns-in-Ok
returns-in-Ok c =
    let fits-low : SFits w64 c.args.low = search rules in
    let fits-high : SFits w64 c.args.high = search rules in
    let low : to_z w64 (of_z w64 c.args.low) ≡ c.args.low = to_z-of_z w64 c.args.low fits-low in
    let high : to_z w64 (of_z w64 c.args.high) ≡ c.args.high = to_z-of_z w64 c.args.high fits-high in
    subst (λ (m : Checked Number). Gives c.known_number.result m)
    (sym (constant-number (source c.args.text) c.args.low c.args.high c.args.v.now c.args.functions.now c.in-Ok.ensures))
    (subst (λ (z : ℤ). Gives c.known_number.result (known_number (source c.args.text) c.args.v.now.first c.args.low z c.args.functions.now c.args.v.now.expr)) high
    (subst
    (λ (z : ℤ). Gives c.known_number.result (known_number (source c.args.text) c.args.v.now.first z (to_z w64 (of_z w64 c.args.high)) c.args.functions.now c.args.v.now.expr)) low
    c.known_number.ensures))
