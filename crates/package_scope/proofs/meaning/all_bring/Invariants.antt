use Rattle.std.proofs.Common.{◌≡◌, drop}
use Rattle.package_scope.specs.Lookup as means
use Rattle.package_scope.proofs.meaning.all_bring.Given as goal

abbrev pub invariant-loop-import : goal.invariant-loop-import
invariant-loop-import l = means.both l.together (means.all_bring l.table l.name l.token (drop l.import-index l.list)) ≡ means.all_bring l.table l.name l.token l.list
