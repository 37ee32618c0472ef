use Rattle.std.proofs.Common.{ap}
use Rattle.v_modules.specs.Places.{Places}
use Rattle.v_modules.proofs.tables.table_of.Goals as goal

pub invariant_of-names : goal.invariant_of-names
invariant_of-names c = record { indexed = λ name. ap (λ (ps : Places). ps name) c.in_ok-functions_of.ensures }
