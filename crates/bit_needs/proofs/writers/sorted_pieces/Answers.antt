use Rattle.std.proofs.Common.{rules, sym, subst, List}
use Rattle.std.specs.List.Sorted.{IsNonDecreasingBy}
use Rattle.std.proofs.lemmas.List.Sorted.{IsNonDecreasingBy-from_sort_by_key}
use Rattle.bit_needs.specs.declared.writers.Written.{Written}
use Rattle.bit_needs.specs.Writers.{low_of}
use Rattle.bit_needs.proofs.writers.sorted_pieces.Goals as goal

pub returns-clause-ordered : goal.returns-clause-ordered
returns-clause-ordered c =
    subst (λ (ws : List Written). IsNonDecreasingBy low_of ws) (sym c.from_vec.ensures)
    (IsNonDecreasingBy-from_sort_by_key low_of _ c.in_ok-sort_by_key.ensures.sorted (λ a r q k. search rules))
