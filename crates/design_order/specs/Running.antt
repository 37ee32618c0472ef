-- A design that runs in an order of its combinational processes, and in one way alone.
use Rattle.std.specs.Prelude.{ℕ, List}
use Rattle.row_machine.specs.Valuation.{Valuation}
use Rattle.row_machine.specs.Order.{Sound, IsOrder}
use Rattle.row_machine.specs.Trace.{OneTrace}
use Rattle.sv_types.specs.declared.design.Design.{Design}
use Rattle.sv_types.specs.Machine.{machine}
use Rattle.comb_order.specs.Combs.{combs_at}

-- its machine is sound, its combinational processes can be run in this order, and any rows have exactly one trace
pub record RunsIn (d : Design) (order : List ℕ) : Type 0 where
  pub sound : Sound (machine d)
  pub runs : IsOrder (machine d).combs (combs_at d order)
  pub one_trace : (rows : List Valuation) → OneTrace (machine d) rows
