use Rattle.std.proofs.Common.{ap, ◌∙◌}
use Rattle.package_scope.specs.Packages.{all_held, holders_in, of_number}
use Rattle.package_scope.proofs.Holding.{held-is}
use Rattle.package_scope.proofs.meaning.by_wildcards.Goals as goal

pub returns-else-imports-holders : goal.returns-else-imports-holders
returns-else-imports-holders c =
    c.all_hold.ensures
    ∙ ap (all_held c.args.table.now c.args.scope c.args.name.now c.args.token)
    (c.under-holders.ensures ∙ ap (of_number (holders_in c.args.index.now.packages.holders)) c.requires.known ∙ c.requires.packaged.holders c.args.name.now)
    ∙ held-is c.args.table.now c.args.scope c.args.name.now c.args.token
