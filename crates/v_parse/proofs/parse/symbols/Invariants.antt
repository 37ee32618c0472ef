use Rattle.std.proofs.Common.{◌≡◌, ◌++◌, drop}
use Rattle.v_parse.specs.Parsing.{symbols}
use Rattle.v_parse.proofs.parse.symbols.Given as goal

abbrev pub invariant-loop-token : goal.invariant-loop-token
invariant-loop-token l = l.made.items ++ symbols (drop l.token-index l.tokens) ≡ symbols l.tokens
