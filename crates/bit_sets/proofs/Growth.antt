-- Sets that grow at their end.
use Rattle.bit_sets.proofs.Laws as L

pub ruleset growth = (L.in-none, L.in-more, L.ascending-none, L.end-none, L.in-pushed, L.ascending-pushed, L.end-pushed, L.covers-none, L.or-false)
