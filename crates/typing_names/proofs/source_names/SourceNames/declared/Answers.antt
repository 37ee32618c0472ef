use Rattle.std.proofs.Common.{sym, ap, ◌∙◌, length}
use Rattle.package_scope.specs.declared.table.Table.{Table}
use Rattle.typing_names.proofs.Uses.{number-there, number-none}
use Rattle.typing_names.proofs.source_names.SourceNames.declared.Goals as goal

pub returns-in-Some : goal.returns-in-Some
returns-in-Some c =
    number-there c.args.self.now.tree.now c.args.self.now.names.now c.args.token c.in-Some.place c.args.self.now.names.now.declared
    (sym (c.args.self.now.declared c.args.token) ∙ sym c.of.ensures ∙ c.in-Some.is)

pub returns-in-None : goal.returns-in-None
returns-in-None c =
    c.len.ensures
    ∙ ap (λ (t : Table). length t.declared) c.table.ensures
    ∙ number-none c.args.self.now.tree.now c.args.self.now.names.now c.args.token c.args.self.now.names.now.declared
    (sym (c.args.self.now.declared c.args.token) ∙ sym c.of.ensures ∙ c.in-None.is)
