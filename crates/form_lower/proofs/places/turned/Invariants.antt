use Rattle.std.proofs.Common.{◌≡◌, ◌++◌, length, reverse}
use Rattle.form_lower.proofs.places.turned.Given as goal

abbrev pub invariant-loop-item : goal.invariant-loop-item
invariant-loop-item l = l.made ++ reverse l.rest ≡ reverse l.fn.items

abbrev pub decreases-loop-item : goal.decreases-loop-item
decreases-loop-item l = length l.rest
