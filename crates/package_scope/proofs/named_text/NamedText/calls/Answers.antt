use Rattle.std.proofs.Common.{◌∙◌}
use Rattle.package_scope.specs.Rules.{call_by}
use Rattle.package_scope.proofs.Kept.{add-more}
use Rattle.package_scope.proofs.named_text.NamedText.calls.Goals as goal

pub loop-found_by-preserved : goal.loop-found_by-preserved
loop-found_by-preserved c =
    add-more (call_by c.args.self.now.tokens.now c.args.self.now.names.now) c.as_slice-uses.result.now c.loop-found_by.found_by-index _
    c.loop-found_by.calls c.add_call.new.calls c.loop-found_by-test.true c.in_ok-add_call.ensures
    ∙ c.loop-found_by.invariant
