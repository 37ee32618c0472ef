use Rattle.std.proofs.Common.{◌≡◌, ◌+◌, ◌-◌, false, nat_eq, ap, sym, ◌∙◌, arith}
use Rattle.std.proofs.lemmas.Bool.Decides.{nat_tests}
use Rattle.package_scope.specs.Tables.{outer}
use Rattle.package_scope.specs.Walks.{gives_value}
use Rattle.package_scope.specs.declared.table.Table.{Table}
use Rattle.package_scope.proofs.Around.{valued-out}
use Rattle.package_scope.proofs.named_text.NamedText.has_value.Goals as goal

pub loop-left-preserved : goal.loop-left-preserved
loop-left-preserved c =
    let next : c.loop-left.left ≡ (c.loop-left.left - 1) + 1 = omega arith in
    let inner : nat_eq c.loop-left.scope 0 ≡ false = grind (arith, nat_tests, c.if-scope-eq0.false) in
    valued-out (gives_value c.args.self.now.tokens.now c.args.self.now.names.now c.args.found_by.at c.args.declaration.now) c.args.self.now.names.now
    c.loop-left.left (c.loop-left.left - 1) c.loop-left.scope c.outer-scope.result next
    (sym c.has_value_in.ensures ∙ c.if-has_value_in.false) inner
    (c.outer-scope.ensures ∙ ap (λ ss. outer ss c.loop-left.scope) (c.as_slice.ensures ∙ ap (λ (t : Table). t.scopes) c.table-table.ensures))
    ∙ c.loop-left.invariant
