use Rattle.std.proofs.Common.{◌≡◌, map}
use Rattle.expr_type.specs.Statements.{case_items}
use Rattle.stmt_types.specs.Cases.{default_bodies, item_of}
use Rattle.stmt_types.proofs.cases.split.Given as goal

abbrev pub invariant-loop-item : goal.invariant-loop-item
invariant-loop-item l = record {
  items : l.made ≡ case_items (map item_of l.yielded);
  others : l.others.items ≡ default_bodies l.yielded;
}
