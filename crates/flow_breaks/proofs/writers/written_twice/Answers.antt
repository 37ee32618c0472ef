use Rattle.std.proofs.Common.{subst, sym, List, Option}
use Rattle.std.specs.List.Sorted.{IsPermutation}
use Rattle.bit_clashes.specs.declared.Piece.{Piece}
use Rattle.bit_clashes.specs.Clashes.{IsLeastClash}
use Rattle.design_breaks.specs.declared.Break.{Break}
use Rattle.least_breaks.specs.Least.{IsLeast}
use Rattle.flow_breaks.specs.Pieces.{second_breaks}
use Rattle.flow_breaks.proofs.Seconds.{twice-law}
use Rattle.flow_breaks.proofs.writers.written_twice.Goals as goal

pub returns : goal.returns
returns c = λ d same are.
    subst (λ (r : Option Break). IsLeast (second_breaks d) r) (sym c.break_of.ensures)
    (twice-law c.args.processes.now c.args.found.now c.in_ok-ordered.ordered c.least_clash.result
    (subst (λ (xs : List Piece). IsPermutation xs c.in_ok-ordered.ordered) c.in_ok-pieces.ensures c.in_ok-ordered.ensures.same)
    c.in_ok-ordered.ensures.placed
    (subst (λ (xs : List Piece). IsLeastClash xs c.least_clash.result) c.as_slice.ensures c.least_clash.ensures)
    d same are)
