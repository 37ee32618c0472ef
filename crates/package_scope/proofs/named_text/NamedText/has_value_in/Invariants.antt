use Rattle.std.proofs.Common.{◌≡◌, drop}
use Rattle.std.specs.Prelude.{filter}
use Rattle.std.specs.List.{list_any}
use Rattle.package_scope.specs.Finding.{is_loop_of}
use Rattle.package_scope.specs.Walks as walks
use Rattle.package_scope.proofs.named_text.NamedText.has_value_in.Given as goal

abbrev pub invariant-loop-run : goal.invariant-loop-run
invariant-loop-run l = list_any (walks.gives_value l.self.tokens.now l.self.names.now l.token l.declaration) (drop l.run-index l.runs)
    ≡ list_any (walks.gives_value l.self.tokens.now l.self.names.now l.token l.declaration) (filter (is_loop_of l.scope) l.self.names.now.loops)
