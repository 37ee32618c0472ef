use Rattle.std.proofs.Common.{◌≡◌, ◌≤◌, ◌+◌, drop}
use Rattle.typing_names.specs.Counts.{before_token}
use Rattle.typing_names.proofs.counting.count_before.Given as goal

abbrev pub invariant-loop-declaration : goal.invariant-loop-declaration
invariant-loop-declaration l = record {
  most : l.count ≤ l.declaration-index;
  count : l.count + before_token l.token (drop l.declaration-index l.list) ≡ before_token l.token l.list;
}
