use Rattle.std.proofs.Common.{◌≡◌, Ok, refl, rules}
use Rattle.std.proofs.lemmas.Int.{to_z-of_z}
use mir.Val.{SFits, to_z, of_z}
use mir.Syntax.{w128}
use Rattle.case_targets.proofs.Making.{case-made, ok-same}
use Rattle.case_targets.proofs.cases.case_of.Goals as goal

pub returns-in_ok-path-in-Some : goal.returns-in_ok-path-in-Some
returns-in_ok-path-in-Some c =
    let fits : SFits w128 c.args.k = search rules in
    let same : to_z w128 (of_z w128 c.args.k) ≡ c.args.k = to_z-of_z w128 c.args.k fits in
    case-made c.args.e.now c.args.done.now c.args.i.now _ c.args.k same c.in_ok-bits_of.field-0 c.in-Some.number c.in_ok-number-in-Some.number c.with_literal-path.result
    c.in_ok-number-in-Some.path c.in_ok-path-in-Some.path c.with_number.result c.in_ok-path-in-Some.done c.in-Some.is c.in_ok-bits_of.ensures c.with_literal-path.ensures (ok-same c.in-Some.number c.in_ok-number-in-Some.number (Ok c.in-Some.number) refl c.in_ok-number-in-Some.ensures.0)
    c.in_ok-number-in-Some.ensures.1 (ok-same c.in_ok-number-in-Some.path c.in_ok-path-in-Some.path (Ok c.in_ok-number-in-Some.path) refl c.in_ok-path-in-Some.ensures.0) c.in_ok-path-in-Some.ensures.1 c.with_number.ensures
