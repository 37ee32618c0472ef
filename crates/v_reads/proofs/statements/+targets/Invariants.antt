use Rattle.std.proofs.Common.{map, drop}
use Rattle.std.specs.Prelude.{flat_map}
use Rattle.v_meaning.specs.Statements.{Target, target}
use Rattle.v_eval.specs.Scopes.{scope_of}
use Rattle.v_reads.proofs.Sets.{Left}
use Rattle.v_reads.proofs.statements.+targets.Given as goal

abbrev pub invariant-lvals_reads-loop-part : goal.invariant-lvals_reads-loop-part
invariant-lvals_reads-loop-part l =
    Left l.fn.to l.to (flat_map (λ (t : Target). t.reads (scope_of l.scope)) (map target (drop l.part-index l.parts))) (flat_map (λ (t : Target). t.reads (scope_of l.fn.scope)) (map target l.fn.parts))
