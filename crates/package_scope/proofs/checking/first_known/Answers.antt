use Rattle.std.proofs.Common.{None, ap, ◌∙◌}
use Rattle.package_scope.specs.Least.{joined, least_over, least_kept}
use Rattle.package_scope.specs.Rules.{least, declaration_breaks, repeated_import_breaks, calls_breaks}
use Rattle.package_scope.specs.declared.table.Table.{Table}
use Rattle.package_scope.proofs.Orders.{all-from, further-is}
use Rattle.package_scope.proofs.checking.first_known.Goals as goal

pub returns : goal.returns
returns c =
    all-from c.args.names.now.tokens.now c.args.names.now.names.now c.args.events.now
    c.uses_break-uses.result c.imports_break-imports.result c.wildcards_break-wildcards.result c.in_ok-twice.twice c.events_break-others.result c.kept_break-kept.result c.first-last.result
    c.first.result c.first-2.result c.first-further.result c.first-3.result c.first-4.result c.first-5.result
    c.uses_break-uses.ensures
    c.imports_break-imports.ensures
    c.wildcards_break-wildcards.ensures
    (c.in_ok-twice.ensures ∙ ap (λ (x : Table). joined (least_over (declaration_breaks x) None x.declared) (least_over (repeated_import_breaks x) None x.named)) c.table.ensures)
    c.events_break-others.ensures
    (c.kept_break-kept.ensures ∙ ap (λ xs. least_kept None 0 xs) c.tokens-2.ensures)
    (c.first-last.ensures ∙ ap (λ o. joined o c.in_ok-rests.rests) c.in_ok-calls.ensures ∙ ap (λ o. joined (least (calls_breaks c.args.names.now.tokens.now c.args.names.now.names.now)) o) c.in_ok-rests.ensures
    ∙ further-is c.args.names.now.tokens.now c.args.names.now.names.now)
    c.first.ensures c.first-2.ensures c.first-further.ensures c.first-3.ensures c.first-4.ensures c.first-5.ensures
