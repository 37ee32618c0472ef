use Rattle.std.proofs.Common.{◌≡◌, Some, ap, sym, ◌∙◌}
use Rattle.package_scope.specs.Earliest.{kept_in, keep, with_one}
use Rattle.package_scope.specs.Index.{number_in}
use Rattle.package_scope.proofs.Clashing.{kept-add}
use Rattle.package_scope.proofs.clashes.Clashes.add.Goals as goal

pub returns : goal.returns
returns c =
    let has : number_in c.args.names.now c.args.name.now ≡ Some c.in-Some.number = sym c.number.ensures ∙ c.in-Some.is in
    kept-add c.args.names.now c.args.self.now c.keep.new.self c.args.scope c.args.name.now c.args.token c.args.share c.in-Some.number has
    (c.in_ok-keep.ensures ∙ ap (λ e. keep (kept_in c.args.self.now) c.args.scope c.in-Some.number e)
    (c.with_one-earliest.ensures ∙ ap (λ o. with_one c.args.token c.args.share o) c.find.ensures))
