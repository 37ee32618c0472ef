-- The lines of a trace: for each row the bits of each output, as in a row file.
use Rattle.std.specs.Prelude.{List, [], map, flat_map, slice_index_or, ℕ}
use Rattle.b4_core.specs.declared.bit.Bit4.{Bit4}
use Rattle.stim_rows.specs.declared.shape.Port.{Port}
use Rattle.stim_rows.specs.RowFiles.{line_text}

-- what a valuation holds in the signal of a port
abbrev pub held : List (List Bit4) → Port → List Bit4
held v port = slice_index_or v port.signal []

abbrev pub shown : List Port → List (List Bit4) → List (List Bit4)
shown ports v = map (held v) ports

abbrev pub lines_of : List Port → List (List (List Bit4)) → List ℕ
lines_of outputs trace = flat_map (λ v. line_text (shown outputs v)) trace
