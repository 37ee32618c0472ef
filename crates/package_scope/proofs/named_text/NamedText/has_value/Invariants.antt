use Rattle.std.proofs.Common.{◌≡◌, length}
use Rattle.package_scope.specs.Walks as walks
use Rattle.package_scope.proofs.named_text.NamedText.has_value.Given as goal

abbrev pub invariant-loop-left : goal.invariant-loop-left
invariant-loop-left l = walks.valued (walks.gives_value l.self.tokens.now l.self.names.now l.found_by.at l.declaration) l.self.names.now l.left l.scope
    ≡ walks.valued (walks.gives_value l.self.tokens.now l.self.names.now l.found_by.at l.declaration) l.self.names.now (length l.self.names.now.scopes) l.fn.found_by.scope

abbrev pub decreases-loop-left : goal.decreases-loop-left
decreases-loop-left l = l.left
