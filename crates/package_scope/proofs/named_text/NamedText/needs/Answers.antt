use Rattle.std.proofs.Common.{◌∙◌}
use Rattle.package_scope.specs.Rules.{need_by}
use Rattle.package_scope.proofs.Kept.{add-more}
use Rattle.package_scope.proofs.named_text.NamedText.needs.Goals as goal

pub loop-found_by-preserved : goal.loop-found_by-preserved
loop-found_by-preserved c =
    add-more (need_by c.args.self.now.tokens.now c.args.self.now.names.now) c.as_slice-uses.result.now c.loop-found_by.found_by-index _
    c.loop-found_by.needs c.add_need.new.needs c.loop-found_by-test.true c.in_ok-add_need.ensures
    ∙ c.loop-found_by.invariant
