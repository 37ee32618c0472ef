use Rattle.std.proofs.Common.{rules, ◌≡◌, ◌∙◌, ap, arith, true}
use Rattle.std.proofs.lemmas.Int.{ints, to_z-of_z}
use mir.Val.{SFits, to_z, of_z}
use mir.Syntax.{w64}
use Rattle.v_meaning.specs.Values as T
use Rattle.v_meaning.specs.Values.{meaning}
use Rattle.lowering_laws.specs.Terms.{above}
use Rattle.memory_words.proofs.Naming.{above-names}
use Rattle.memory_words.proofs.Unguarded.{finds-above}
use Rattle.memory_words.proofs.numbers.number_above.Goals as goal

pub returns-clause-number : goal.returns-clause-number
returns-clause-number c =
    let fits : SFits w64 c.args.low = search rules in
    let low : to_z w64 (of_z w64 c.args.low) ≡ c.args.low = to_z-of_z w64 c.args.low fits in
    finds-above c.args.index c.args.low (meaning c.in_ok-number.number.expr) c.in_ok-number.number.bits c.in_ok-made.made c.in_ok-number.ensures.number c.in_ok-number.ensures.bits
    (record { above = omega (arith, ints); below = omega (arith, ints) }) (c.in_ok-made.ensures ∙ ap (above (T.signing true (meaning c.in_ok-number.number.expr)) 66) low)

pub returns-clause-names : goal.returns-clause-names
returns-clause-names c =
    above-names c.args.index (meaning c.in_ok-number.number.expr) 66 (to_z w64 (of_z w64 c.args.low)) c.in_ok-made.made c.in_ok-number.ensures.names c.in_ok-made.ensures
