-- Marks of signals by number.
use Rattle.std.specs.Prelude.{ℕ, ◌/◌, ◌^◌, nat_lt, Bool, true, cond, List, [], ◌∷◌, length, slice_set}
use Rattle.flow_sets.specs.declared.uses.Write.{Write}

abbrev pub Part : Type 0
Part = List Bool → List Bool

abbrev pub marked : ℕ → Part
marked n u = cond (nat_lt n (length u)) (slice_set u n true) u

abbrev pub all_marked : List ℕ → Part
all_marked [] u = u
all_marked (n ∷ ns) u = all_marked ns (marked n u)

-- the signals of which bits are written, by the numbers of those bits
abbrev pub writes_marked : List Write → Part
writes_marked [] u = u
writes_marked (w ∷ ws) u = writes_marked ws (cond (nat_lt w.of.span.low w.of.span.high) (marked (w.of.span.low / 2 ^ 32) u) u)
