use Rattle.std.proofs.Common.{◌≡◌, ◌+◌, ◌-◌, false, nat_eq, ap, sym, ◌∙◌, arith}
use Rattle.std.proofs.lemmas.Bool.Decides.{nat_tests}
use Rattle.package_scope.specs.Lookup.{in_scope}
use Rattle.package_scope.specs.Tables.{outer}
use Rattle.package_scope.specs.declared.table.Found.TheVariants.{Absent}
use Rattle.package_scope.proofs.Outwards.{one-out}
use Rattle.package_scope.proofs.meaning.means.Goals as goal

pub loop-left-preserved : goal.loop-left-preserved
loop-left-preserved c =
    let next : c.loop-left.left ≡ (c.loop-left.left - 1) + 1 = omega arith in
    let absent : in_scope c.args.table.now c.loop-left.scope c.args.name.now c.args.token ≡ Absent = sym c.in_scope.ensures ∙ c.in-Absent.is in
    let inner : nat_eq c.loop-left.scope 0 ≡ false = grind (arith, nat_tests, c.if-scope-eq0.false) in
    one-out c.args.table.now c.loop-left.left (c.loop-left.left - 1) c.loop-left.scope c.outer-scope.result c.args.name.now c.args.token next absent inner (c.outer-scope.ensures ∙ ap (λ ss. outer ss c.loop-left.scope) c.as_slice.ensures)
    ∙ c.loop-left.invariant
