use Rattle.std.proofs.Common.{◌≡◌, ◌++◌, map, drop}
use Rattle.comb_order.specs.Combs.{number_at}
use Rattle.comb_order.proofs.ordering.numbers_at.Given as goal

abbrev pub invariant-loop-place : goal.invariant-loop-place
invariant-loop-place l = l.all ++ map (number_at l.numbers) (drop l.place-index l.places) ≡ map (number_at l.numbers) l.places
