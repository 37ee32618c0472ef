use Rattle.std.proofs.Common.{rules, sym, subst, List}
use Rattle.std.specs.List.Sorted.{IsNonDecreasingBy}
use Rattle.std.proofs.lemmas.List.Sorted.{IsNonDecreasingBy-from_sort_by_key}
use Rattle.bit_clashes.specs.declared.Piece.{Piece}
use Rattle.bit_clashes.specs.Clashes.{low_of}
use Rattle.bit_clashes.proofs.in_order.Goals as goal

pub returns-clause-ordered : goal.returns-clause-ordered
returns-clause-ordered c =
    subst (λ (ps : List Piece). IsNonDecreasingBy low_of ps) (sym c.from_vec-ordered.ensures)
    (IsNonDecreasingBy-from_sort_by_key low_of _ c.in_ok-sort_by_key.ensures.sorted (λ a r q k. search rules))
