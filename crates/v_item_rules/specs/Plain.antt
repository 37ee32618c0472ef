-- The rules on a function and on an instance but those on circles: as if no function led back to itself.
use Rattle.std.specs.Prelude.{ℕ, ◌+◌, false, List, [], ◌++◌}
use Rattle.v_tree.specs.Scopes.{Scope, inside, repeated}
use Rattle.v_tree.specs.StmtRules.{rules_of_stmt, in_function, range_size, locals_size}
use Rattle.v_tree.specs.Rules.{function_names}
use Rattle.v_tree.specs.declared.items.VFunction.{VFunction}

abbrev pub function_plain : Scope → VFunction → ℕ → List ℕ
function_plain scope f at =
    let own = function_names f at in
    repeated [] own
    ++ (rules_of_stmt f.body).broken in_function (record { scope = inside own scope; leads_back = λ g. false })
    (at + (3 + (range_size f.range + (locals_size f.inputs + locals_size f.locals))))
