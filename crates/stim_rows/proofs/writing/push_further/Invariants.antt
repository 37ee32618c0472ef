use Rattle.std.proofs.Common.{◌≡◌, ◌++◌, map, drop}
use Rattle.stim_rows.specs.RowFiles as rows
use Rattle.stim_rows.specs.Slots as slots
use Rattle.stim_rows.specs.Lines as spec
use Rattle.stim_rows.proofs.writing.push_further.Given as goal

abbrev pub invariant-loop-port : goal.invariant-loop-port
invariant-loop-port l = l.text.items ++ slots.behind 32 (map rows.vector_text (spec.shown (drop l.port-index l.ports) l.valuation)) ≡ l.fn.text.items ++ slots.behind 32 (map rows.vector_text (spec.shown l.ports l.valuation))
