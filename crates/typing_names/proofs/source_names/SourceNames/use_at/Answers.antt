use Rattle.std.proofs.Common.{List, sym, ap, ◌∙◌}
use Rattle.std.specs.Prelude.{slice_get}
use Rattle.package_scope.specs.declared.table.Table.{Table}
use Rattle.package_scope.specs.declared.table.Use.{Use}
use Rattle.typing_names.proofs.Uses.{no-use, use-there}
use Rattle.typing_names.proofs.source_names.SourceNames.use_at.Goals as goal

pub returns-in-None : goal.returns-in-None
returns-in-None c = no-use c.args.token c.args.self.now.names.now.uses (sym (c.args.self.now.used c.args.token) ∙ sym c.of.ensures ∙ c.in-None.is)

pub returns-in-Some : goal.returns-in-Some
returns-in-Some c =
    use-there c.args.token c.in-Some.place c.args.self.now.names.now.uses c.copied.result
    (c.copied.ensures ∙ c.at.ensures ∙ ap (λ (us : List Use). slice_get us c.in-Some.place) (c.as_slice.ensures ∙ ap (λ (t : Table). t.uses) c.table.ensures))
    (sym (c.args.self.now.used c.args.token) ∙ sym c.of.ensures ∙ c.in-Some.is)
