use Rattle.std.proofs.Common.{◌≡◌, ◌++◌, map, drop}
use Rattle.sv_tree.specs.Symbols.{symbol_of}
use Rattle.sv_build.specs.Reading as means
use Rattle.sv_build.proofs.reading.symbols.Given as goal

abbrev pub invariant-loop-token : goal.invariant-loop-token
invariant-loop-token l = l.symbols.items ++ map symbol_of (drop l.token-index l.text) ≡ means.symbols l.fn.tokens
