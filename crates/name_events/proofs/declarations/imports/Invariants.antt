use Rattle.std.proofs.Common.{◌≡◌, drop}
use Rattle.name_events.specs.Types as means
use Rattle.name_events.proofs.declarations.imports.Given as goal

abbrev pub invariant-loop-import : goal.invariant-loop-import
invariant-loop-import l = means.imports (drop l.import-index l.list) l.to ≡ means.imports l.list l.fn.to
