use Rattle.std.proofs.Common.{◌≡◌, map, drop}
use Rattle.std.specs.List.{list_any}
use Rattle.sv_types.specs.Meanings.{Meaning}
use Rattle.sv_types.specs.Expressions.{meaning}
use Rattle.eval_stmts.proofs.assigns.has_stream.Given as goal

abbrev pub invariant-loop-e : goal.invariant-loop-e
invariant-loop-e l = list_any (λ (m : Meaning). m.streams) (map meaning (drop l.e-index l.es)) ≡ list_any (λ (m : Meaning). m.streams) (map meaning l.es)
