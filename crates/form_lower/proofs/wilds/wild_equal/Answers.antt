use Rattle.std.proofs.Common.{refl, sym, subst}
use Rattle.v_meaning.specs.Values as T
use Rattle.sv_types.specs.Expressions.{meaning}
use Rattle.form_lower.specs.Wilds.{WildEquals}
use Rattle.form_lower.proofs.Comparing.{equals, unequals}
use Rattle.form_lower.proofs.wilds.wild_equal.Goals as goal

pub returns-in_ok-unequal-clause-equals : goal.returns-in_ok-unequal-clause-equals
returns-in_ok-unequal-clause-equals c =
    let e = meaning c.args.x.now in
    let f = meaning c.args.y.now in
    let m = T.meaning c.args.left in
    let n = T.meaning c.args.right in
    let r = T.meaning c.in_ok-unequal.unequal in
    subst (λ b. WildEquals b e f m n c.matching.new.helpers r) (sym c.if-negated.true)
    (unequals e f m n c.matching.new.helpers (T.meaning c.in_ok-equal.equal) r c.in_ok-equal.ensures.matches c.in_ok-unequal.ensures)

pub returns-else-negated-clause-equals : goal.returns-else-negated-clause-equals
returns-else-negated-clause-equals c =
    let e = meaning c.args.x.now in
    let f = meaning c.args.y.now in
    let m = T.meaning c.args.left in
    let n = T.meaning c.args.right in
    let r = T.meaning c.in_ok-equal.equal in
    subst (λ b. WildEquals b e f m n c.matching.new.helpers r) (sym c.if-negated.false)
    (equals e f m n c.matching.new.helpers r r c.in_ok-equal.ensures.matches refl)
