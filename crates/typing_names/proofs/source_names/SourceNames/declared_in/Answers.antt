use Rattle.std.proofs.Common.{ℕ, ap, ◌∙◌}
use Rattle.package_scope.specs.Lookup.{own}
use Rattle.typing_names.proofs.source_names.SourceNames.declared_in.Goals as goal

pub returns : goal.returns
returns c = c.own.ensures ∙ ap (λ (n : ℕ). own c.args.self.now.names.now c.args.interface c.args.name.now n) c.args.self.now.ended
