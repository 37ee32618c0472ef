-- Netlists of signals of one bit, as machines.
use Rattle.std.specs.Prelude.{◌≡◌, ℕ, ◌<◌, ◌&&◌, Bool, true, false, not, cond, List, [], ◌∷◌, length, map, replicate, slice_get, Option, Some, None}
use Rattle.b4_core.specs.declared.bit.Bit4.{Bit4}
use Rattle.b4_core.specs.declared.bit.Edge.{Edge}
use Rattle.b4_core.specs.declared.bit.Edge.TheVariants as E
use Rattle.b4_core.specs.Bits.{not4, is_one}
use Rattle.b4_core.specs.Bitwise.{edge_of}
use Rattle.row_machine.specs.Valuation.{Place, Valuation, Changes, is_place}
use Rattle.row_machine.specs.Machine.{Process, EdgeProcess, Machine}
use Rattle.round_runner.specs.Stores.{holding}
use Rattle.round_runner_tests.specs.declared.netlist.Gate.{Gate}
use Rattle.round_runner_tests.specs.declared.netlist.Flop.{Flop}

-- the bit of a signal
abbrev pub bit_of : ℕ → Place
bit_of n = record { signal = n; bit = 0 }

-- a bit is assigned
abbrev pub assigned : ℕ → Bool → Bit4 → Changes
assigned to on b q = cond (is_place q (bit_of to) && on) (Some b) None

-- a gate without an enable is always on
abbrev pub is_on : Option ℕ → Valuation → Bool
is_on None v = true
is_on (Some n) v = is_one (v (bit_of n))

abbrev pub negated : Bool → Bit4 → Bit4
negated true b = not4 b
negated false b = b

-- the signals that a gate reads
abbrev pub reads_of : Gate → List ℕ
reads_of g = g.from ∷ elim g.enable [ None ↦ [] | Some n ↦ n ∷ [] ]

abbrev pub writes_of : Gate → List ℕ
writes_of g = g.to ∷ []

abbrev pub comb_of : Gate → Process
comb_of g = record {
  from_zero = not g.waits;
  waits_for = cond g.waits (bit_of g.from ∷ []) [];
  reads = [];
  writes = bit_of g.to ∷ [];
  assigns = λ v. assigned g.to (is_on g.enable v) (negated g.negates (v (bit_of g.from)));
}

abbrev pub is_rising : Edge → Bool
is_rising E.Pos = true
is_rising E.Neg = false
is_rising E.None = false

abbrev pub edge_process_of : Flop → EdgeProcess
edge_process_of f = record {
  writes = bit_of f.to ∷ [];
  runs = λ last v. is_rising (edge_of (last (bit_of f.clock)) (v (bit_of f.clock)));
  updates = λ v. assigned f.to true (v (bit_of f.from));
}

-- the vectors of signals of one bit
abbrev pub vectors : List Bit4 → List (List Bit4)
vectors bits = map (λ b. b ∷ []) bits

abbrev pub machine_of : List Bit4 → List ℕ → List Gate → List Flop → Machine
machine_of initial inputs gates flops = record {
  combs = map comb_of gates;
  edges = map edge_process_of flops;
  inputs = map bit_of inputs;
  initial = holding (vectors initial);
  start = holding (vectors initial);
}

-- so many signals of one bit
abbrev pub ones : ℕ → List ℕ
ones n = replicate n 1

abbrev pub shape_of : List Bit4 → List ℕ
shape_of initial = ones (length initial)

-- all that is written, and all inputs, are signals
pub record IsWhole (initial : List Bit4) (inputs : List ℕ) (gates : List Gate) (flops : List Flop) (reads writes : List (List ℕ)) : Type 0 where
  pub inputs_there : (i n : ℕ) → slice_get inputs i ≡ Some n → n < length initial
  pub gates_there : (i : ℕ) (g : Gate) → slice_get gates i ≡ Some g → g.to < length initial
  pub flops_there : (i : ℕ) (f : Flop) → slice_get flops i ≡ Some f → f.to < length initial
  pub reads_are : reads ≡ map reads_of gates
  pub writes_are : writes ≡ map writes_of gates
