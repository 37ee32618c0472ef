use Rattle.std.proofs.Common.{rules, is_some, List, ap, ◌∙◌}
use Rattle.std.specs.List.{list_any}
use Rattle.package_scope.specs.Rules.{is_link_to}
use Rattle.package_scope.specs.declared.table.Link.{Link}
use Rattle.package_scope.proofs.Remaining.{link-any}
use Rattle.package_scope.proofs.rests.rests_of.Goals as goal

pub returns : goal.returns
returns c = record {
  ends = search rules;
  links = λ n q. ap is_some (c.in_ok-slots.ensures n q) ∙ link-any 0 n q c.as_slice-3.result.now ∙ ap (λ (ls : List Link). list_any (is_link_to n q) ls) c.as_slice-3.ensures;
}
