use Rattle.std.proofs.Common.{◌≡◌, ◌+◌, ◌-◌, ◌≤◌, length}
use Rattle.typing_names.proofs.Painting.{Painted}
use Rattle.typing_names.proofs.token_scopes.paint.Given as goal

abbrev pub invariant-loop-token : goal.invariant-loop-token
invariant-loop-token l = record {
  length : length l.scopes ≡ length l.initial.scopes;
  most : l.token ≤ l.first + (l.end - l.first);
  painted : Painted l.first l.token l.number l.initial.scopes l.scopes;
}
