-- Small machines, run on rows: the definitions compute.
use Rattle.std.proofs.Common.{◌≡◌, ℕ, Bool, true, false, not, if◌then◌else◌, List, [], ◌∷◌, map, refl}
use Rattle.b4_core.specs.declared.bit.Bit4.{Bit4}
use Rattle.b4_core.specs.declared.bit.Bit4.TheVariants.{Zero, One, X, Z}
use Rattle.row_machine.specs.Valuation.{Place, Valuation, has, each_bit, is_place}
use Rattle.row_machine.specs.Machine.{at_zero, Process, EdgeProcess, Machine, assignment}
use Rattle.row_machine.specs.Settle.{same_bit}
use Rattle.row_machine.specs.Runs.{trace_of}
use Rattle.row_machine.specs.Rounds.{after_rounds, round_limit}

abbrev pub one_bit : ℕ → Place
one_bit n = record { signal = n; bit = 0 }

-- a row that gives two inputs their bits
abbrev row_of : Bit4 → Bit4 → Valuation
row_of a b q = if is_place (one_bit 0) q then a else if is_place (one_bit 1) q then b else Z

abbrev pub inverse : Bit4 → Bit4
inverse Zero = One
inverse One = Zero
inverse X = X
inverse Z = X

-- from 0 to 1, x or z, or from x or z to 1
abbrev rises : Bit4 → Bit4 → Bool
rises Zero b = not (same_bit b Zero)
rises One b = false
rises X b = same_bit b One
rises Z b = same_bit b One

-- assign y = ~q; always_ff @(posedge clk) q <= d;
abbrev flip_flop : EdgeProcess
flip_flop = record {
  writes = one_bit 2 ∷ [];
  runs = λ v w. rises (v (one_bit 0)) (w (one_bit 0));
  updates = λ v. each_bit (one_bit 2 ∷ []) (λ q. v (one_bit 1));
}

abbrev inverter : Process
inverter = assignment (one_bit 2 ∷ []) (one_bit 3 ∷ []) (λ v q. inverse (v (one_bit 2)))

abbrev clocked : Machine
clocked = record {
  combs = inverter ∷ [];
  edges = flip_flop ∷ [];
  inputs = one_bit 0 ∷ one_bit 1 ∷ [];
  initial = λ q. X;
  start = λ q. X;
}

abbrev seen_at : ℕ → List Valuation → List Bit4
seen_at n vs = map (λ v. v (one_bit n)) vs

-- clk is 0, 1, 0, 1 and d is 1, 1, 0, 0
register_follows : seen_at 3 (trace_of clocked (inverter ∷ []) (row_of Zero One ∷ row_of One One ∷ row_of Zero Zero ∷ row_of One Zero ∷ [])) ≡ X ∷ Zero ∷ Zero ∷ One ∷ []
unfolding has
register_follows = refl

-- from x to 1 is an edge, in the first row too
first_edge : seen_at 2 (trace_of clocked (inverter ∷ []) (row_of One One ∷ [])) ≡ One ∷ []
unfolding has
first_edge = refl

-- y = a; as an `always_comb` it runs from time zero, as an `always @*` only once a has another value than x
abbrev follower : Bool → Process
follower zero = record {
  from_zero = zero;
  waits_for = one_bit 0 ∷ [];
  reads = one_bit 0 ∷ [];
  writes = one_bit 3 ∷ [];
  assigns = λ v. each_bit (one_bit 3 ∷ []) (λ q. inverse (v (one_bit 0)));
}

abbrev combinational : Bool → Machine
combinational zero = record {
  combs = follower zero ∷ [];
  edges = [];
  inputs = one_bit 0 ∷ [];
  initial = λ q. X;
  start = λ q. Zero;
}

from_time_zero : seen_at 3 (trace_of (combinational true) (follower true ∷ []) (row_of X X ∷ row_of Zero X ∷ row_of X X ∷ [])) ≡ X ∷ One ∷ X ∷ []
unfolding has
from_time_zero = refl

-- not started in the first row, so the bit holds what it held at the start; once started it stays so
once_woken : seen_at 3 (trace_of (combinational false) (follower false ∷ []) (row_of X X ∷ row_of Zero X ∷ row_of X X ∷ [])) ≡ Zero ∷ One ∷ X ∷ []
unfolding has
once_woken = refl

-- assign y = ~z; assign z = y; the rounds don't come to rest where the bits start at 0
abbrev ring : Machine
ring = record {
  combs = assignment (one_bit 4 ∷ []) (one_bit 3 ∷ []) (λ v q. inverse (v (one_bit 4))) ∷ assignment (one_bit 3 ∷ []) (one_bit 4 ∷ []) (λ v q. v (one_bit 3)) ∷ [];
  edges = [];
  inputs = [];
  initial = λ q. Zero;
  start = λ q. Zero;
}

abbrev ring_after : ℕ → Bit4
ring_after n = after_rounds ring at_zero (λ q. Zero) n (λ q. Zero) (one_bit 3)

goes_round : ring_after 0 ∷ ring_after 1 ∷ ring_after 2 ∷ ring_after 3 ∷ ring_after 4 ∷ [] ≡ Zero ∷ One ∷ One ∷ Zero ∷ Zero ∷ []
unfolding has
goes_round = refl

three_rounds : round_limit ring ≡ 3
three_rounds = refl
