-- What the signals of a design hold before the first row.
use Rattle.std.specs.Prelude.{ℕ, ◌-◌, List, ◌++◌, length, map, replicate, slice_index_or}
use Rattle.b4_core.specs.declared.bit.Bit4.{Bit4}
use Rattle.b4_core.specs.declared.bit.Bit4.TheVariants.{X}
use Rattle.row_machine.specs.Valuation.{Valuation}
use Rattle.v_meaning.specs.Modules as M
use Rattle.v_meaning.specs.Machine.{size, of_signal}

-- the declared value of a signal, with x behind it up to the signal's bits
abbrev pub padded : M.Signal → List Bit4
padded s = s.initial ++ replicate (size s - length s.initial) X

-- how many bits are kept of each: its own, or those of its declared value if these are more, which no design has
abbrev pub rooms : List M.Signal → List ℕ
rooms ss = map (λ (s : M.Signal). length (padded s)) ss

abbrev pub initially : List M.Signal → Valuation
initially ss q = of_signal ss X (λ s. slice_index_or s.initial q.bit X) q.signal
