-- Shifts (clause 11.4.10).
use Rattle.std.specs.Prelude.{ℕ, ◌-◌, min, List, ◌++◌, take, drop, replicate, length, Bool, true, false, if◌then◌else◌}
use Rattle.b4_core.specs.declared.bit.Bit4.{Bit4}
use Rattle.b4_core.specs.declared.bit.Bit4.TheVariants.{Zero}
use Rattle.b4_core.specs.declared.operators.ShiftOp.{ShiftOp}
use Rattle.b4_core.specs.declared.operators.ShiftOp.TheVariants.{Left, Right, Arith}
use Rattle.b4_core.specs.Vectors.{known, unknown, num, top_bit}

-- v moved up by n places, filled with 0 from below
abbrev pub shift_up : ℕ → List Bit4 → List Bit4
shift_up n v = let k = min n (length v) in replicate k Zero ++ take (length v - k) v

-- v moved down by n places, filled with a bit from above
abbrev pub shift_down : Bit4 → ℕ → List Bit4 → List Bit4
shift_down fill n v = let k = min n (length v) in drop k v ++ replicate k fill

-- << and <<< are Left, >> is Right and >>> is Arith, which fills with the top bit where the result is signed
abbrev pub shift_by : ShiftOp → Bool → ℕ → List Bit4 → List Bit4
shift_by Left signed n v = shift_up n v
shift_by Right signed n v = shift_down Zero n v
shift_by Arith true n v = shift_down (top_bit v) n v
shift_by Arith false n v = shift_down Zero n v

-- all x where the amount has x or z; the amount is unsigned
abbrev pub shift_value : ShiftOp → Bool → List Bit4 → List Bit4 → List Bit4
shift_value op signed v by = if known by then shift_by op signed (num by) v else unknown (length v)
