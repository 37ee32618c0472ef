-- The two kinds of early reads in a function.
use Rattle.std.specs.Prelude.{ℕ, List, map, flat_map}
use Rattle.row_machine.specs.Valuation.{Place}
use Rattle.bit_sets.specs.declared.span.Span.{Span}
use Rattle.bit_sets.specs.declared.span.Use.{Use}
use Rattle.sv_types.specs.declared.design.Design.{Design}
use Rattle.sv_types.specs.declared.statement.Function.{Function}
use Rattle.design_breaks.specs.Breaks as B

abbrev pub spans_of : List Use → List Span
spans_of us = map (λ (u : Use). u.span) us

module _ (d : Design) where
  -- of a block's local
  abbrev pub local_early : Function → List ℕ
  local_early f = B.only_if (B.unrolls d f.body) (B.function_flow d f).unset

  -- of a bit that the function is to write
  abbrev pub result_early : Function → List ℕ
  result_early f = B.only_if (B.unrolls d f.body) (flat_map (λ (o : Place × ℕ). (B.function_flow d f).early o.0) (B.owed d f))
