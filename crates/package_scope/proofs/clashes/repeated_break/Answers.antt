use Rattle.std.proofs.Common.{◌≡◌, Some, ap, sym, ◌∙◌}
use Rattle.package_scope.specs.Index.{number_in}
use Rattle.package_scope.specs.Rules.{least, breaks_if}
use Rattle.package_scope.proofs.Clashing.{import-taken}
use Rattle.package_scope.proofs.clashes.repeated_break.Goals as goal

pub returns : goal.returns
returns c =
    let i = c.args.import.now in
    let x = c.args.taken.now in
    let has : number_in x.names i.source ≡ Some c.in-Some.source = sym c.number.ensures ∙ c.in-Some.is in
    c.break_if.ensures
    ∙ ap (λ b. least (breaks_if b 402 i.at)) (c.is_taken-broken.ensures ∙ import-taken c.args.table.now x i c.in-Some.source c.requires has)
