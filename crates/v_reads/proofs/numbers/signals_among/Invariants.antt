use Rattle.std.proofs.Common.{◌≡◌, ◌++◌, drop}
use Rattle.std.specs.Prelude.{filter}
use Rattle.v_meaning.specs.Scopes.{is_signal}
use Rattle.v_reads.proofs.numbers.signals_among.Given as goal

abbrev pub invariant-loop-number : goal.invariant-loop-number
invariant-loop-number l = l.signals.items ++ filter is_signal (drop l.number-index l.numbers) ≡ filter is_signal l.fn.numbers
