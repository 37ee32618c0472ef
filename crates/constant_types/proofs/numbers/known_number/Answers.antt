use Rattle.std.proofs.Common.{◌≡◌, ◌∙◌, ℕ, ℤ, Ok, Err, rules, ap, sym, subst}
use Rattle.std.proofs.lemmas.Int.{to_z-of_z}
use mir.Val.{SFits, to_z, of_z}
use mir.Syntax.{w64}
use Rattle.const_eval.specs.Values.{SizeIs}
use Rattle.expr_type.specs.declared.halt.Halt.{Halt}
use Rattle.expr_type.specs.declared.operand.Number.{Number}
use Rattle.expr_type.specs.Answers.{HaltsBy, reason, source}
use Rattle.constant_types.specs.Known.{known_number}
use Rattle.constant_types.proofs.Sizes.{size-ok, size-err}
use Rattle.constant_types.proofs.numbers.known_number.Goals as goal

abbrev the_number : ℕ → ℤ → Number
the_number first n = record { first = first; number = n }

pub returns-in-Ok : goal.returns-in-Ok
returns-in-Ok c =
    let fits-low : SFits w64 c.args.low = search rules in
    let fits-high : SFits w64 c.args.high = search rules in
    let low : to_z w64 (of_z w64 c.args.low) ≡ c.args.low = to_z-of_z w64 c.args.low fits-low in
    let high : to_z w64 (of_z w64 c.args.high) ≡ c.args.high = to_z-of_z w64 c.args.high fits-high in
    let fits : SFits w64 c.in-Ok.number = search rules in
    size-ok (source c.args.text) c.args.first c.args.low c.args.high c.args.functions.now c.args.e.now c.nothing_held-env.result c.in-Ok.number c.nothing_held-env.ensures
    (subst (λ (z : ℤ). SizeIs (Ok c.in-Ok.number) c.args.e.now c.args.functions.now c.nothing_held-env.result c.args.low z) high
    (subst (λ (z : ℤ). SizeIs (Ok c.in-Ok.number) c.args.e.now c.args.functions.now c.nothing_held-env.result z (to_z w64 (of_z w64 c.args.high))) low c.in-Ok.ensures))
    ∙ ap (λ (z : ℤ). Ok (the_number c.args.first z)) (sym (to_z-of_z w64 c.in-Ok.number fits))

pub returns : goal.returns
returns c =
    let fits-low : SFits w64 c.args.low = search rules in
    let fits-high : SFits w64 c.args.high = search rules in
    let low : to_z w64 (of_z w64 c.args.low) ≡ c.args.low = to_z-of_z w64 c.args.low fits-low in
    let high : to_z w64 (of_z w64 c.args.high) ≡ c.args.high = to_z-of_z w64 c.args.high fits-high in
    subst (λ (h : Halt). HaltsBy h (reason (known_number (source c.args.text) c.args.first c.args.low c.args.high c.args.functions.now c.args.e.now)))
    (sym c.halt_for.ensures)
    (size-err (source c.args.text) c.args.first c.args.low c.args.high c.args.functions.now c.args.e.now c.nothing_held-env.result c.in-Err.fail c.nothing_held-env.ensures
    (subst (λ (z : ℤ). SizeIs (Err c.in-Err.fail) c.args.e.now c.args.functions.now c.nothing_held-env.result c.args.low z) high
    (subst (λ (z : ℤ). SizeIs (Err c.in-Err.fail) c.args.e.now c.args.functions.now c.nothing_held-env.result z (to_z w64 (of_z w64 c.args.high))) low c.in-Err.ensures)))
