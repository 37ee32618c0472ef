use Rattle.std.proofs.Common.{◌≡◌, ◌++◌, drop}
use Rattle.stim_rows.specs.Lines as spec
use Rattle.stim_rows.proofs.writing.lines.Given as goal

abbrev pub invariant-loop-valuation : goal.invariant-loop-valuation
invariant-loop-valuation l = l.text.items ++ spec.lines_of l.shape.outputs (drop l.valuation-index l.trace) ≡ spec.lines_of l.shape.outputs l.trace
