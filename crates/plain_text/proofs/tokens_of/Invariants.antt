use Rattle.std.proofs.Common.{◌≤◌, length}
use Rattle.plain_text.proofs.tokens_of.Given as goal

abbrev pub invariant-loop-token : goal.invariant-loop-token
invariant-loop-token l = length l.tokens ≤ l.token-index
