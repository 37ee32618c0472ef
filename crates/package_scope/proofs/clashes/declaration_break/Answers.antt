use Rattle.std.proofs.Common.{◌||◌, None, ap, ◌∙◌}
use Rattle.package_scope.specs.Earliest.{clash, kept_under}
use Rattle.package_scope.specs.Rules.{least, breaks_if}
use Rattle.package_scope.proofs.Clashing.{declared-taken}
use Rattle.package_scope.proofs.clashes.declaration_break.Goals as goal

pub returns : goal.returns
returns c =
    let d = c.args.declaration.now in
    let x = c.args.taken.now in
    c.break_if.ensures
    ∙ ap (λ b. least (breaks_if b 402 d.at)) (c.is_taken-broken.ensures
    ∙ ap (λ share. clash (kept_under x.names x.declared d.scope d.name) d.at share || clash (kept_under x.names x.imported d.scope d.name) d.at None) c.construct_of-share.ensures
    ∙ declared-taken c.args.table.now x d c.requires)
