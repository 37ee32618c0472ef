use Rattle.std.proofs.Common.{◌≡◌, ◌-◌, replicate, length}
use Rattle.pattern_fit.specs.Fits.{covers, behind}
use Rattle.pattern_fit.proofs.fitting.cover_elements.Given as goal

abbrev pub invariant-loop-place : goal.invariant-loop-place
invariant-loop-place l =
    behind l.items.items (covers l.rest l.numbers l.place-index (replicate (length l.taken - l.place-index) l.element)) ≡ covers l.rest l.numbers 0 (replicate (length l.taken) l.element)
