use Rattle.std.proofs.Common.{◌≡◌, Some, sym, subst, ◌∙◌, arith}
use Rattle.package_scope.specs.Index.{number_in, puts}
use Rattle.package_scope.proofs.Slots.{under-put}
use Rattle.package_scope.proofs.index.put.Goals as goal

pub returns : goal.returns
returns c =
    let has : number_in c.args.names.now c.args.name.now ≡ Some c.in-Some.number = sym c.number.ensures ∙ c.in-Some.is in
    let same : c.in-Ok.value ≡ c.args.value = omega (arith, c.in-Ok.ensures) in
    subst (λ v. puts c.args.names.now c.args.slots.now c.put.new.self c.args.scope c.args.name.now v) same
    (under-put c.args.names.now c.args.slots.now c.put.new.self c.args.scope c.args.name.now c.in-Some.number c.in-Ok.value has c.in_ok-put.ensures)
