-- A design as a machine over rows: its combinational processes, its edge processes, and what its bits hold by themselves.
use Rattle.std.specs.Prelude.{Bool, true, List, [], cond}
use Rattle.b4_core.specs.declared.bit.Bit4.{Bit4}
use Rattle.row_machine.specs.Valuation.{Place, Valuation, Changes, has, only_if, put_each, each_bit}

-- a combinational process: a continuous assignment, a port connection, an `always_comb` or an `always @*`
-- (IEEE 1800-2017 clauses 9.2.2.1, 9.2.2.2, 10.3 and 23.3.3)
pub record Process : Type 0 where
  -- whether it is started at time zero; a plain `always @*` isn't
  pub from_zero : Bool
  -- the bits of the signals that a plain `always @*` waits for (clause 9.4.2.2)
  pub waits_for : List Place
  -- the bits that it reads, but for those that it writes itself
  pub reads : List Place
  -- the bits that it may write
  pub writes : List Place
  -- what it assigns when it is run on a valuation
  pub assigns : Valuation → Changes

-- a process that runs from time zero and in each run assigns all the bits that it writes, as a continuous assignment does
abbrev pub assignment : List Place → List Place → (Valuation → Place → Bit4) → Process
assignment reads writes value = record { from_zero = true; waits_for = []; reads = reads; writes = writes; assigns = λ v. each_bit writes (value v) }

-- an edge process: `always_ff`, or `always` with edges (clauses 9.2.2.4 and 9.4.2)
pub record EdgeProcess : Type 0 where
  -- the bits that it may write
  pub writes : List Place
  -- whether one of its listed signals has its edge from the first valuation to the second
  pub runs : Valuation → Valuation → Bool
  -- its pending updates when it is run on a valuation (clause 10.4.2)
  pub updates : Valuation → Changes

-- a design
pub record Machine : Type 0 where
  -- the combinational processes
  pub combs : List Process
  -- the edge processes
  pub edges : List EdgeProcess
  -- the bits of the top's inputs
  pub inputs : List Place
  -- what every bit holds before the first row
  pub initial : Valuation
  -- What a bit holds when the first row is settled and no process assigns it. A bit that a process writes holds `initial`,
  -- or what an `initial` statement gave it; one that none writes holds that too if it is a variable's, and else rests at z.
  pub start : Valuation

-- a set of started processes
abbrev pub Started : Type 0
Started = Process → Bool

-- those that are started at time zero
abbrev pub at_zero : Started
at_zero p = p.from_zero

-- what a process assigns if it is started
abbrev pub told : Started → Valuation → Process → Changes
told s v p = only_if (s p) (p.assigns v)

-- what the processes leave alone: the row in the inputs, and the current value in each other bit
abbrev pub base_of : Machine → Valuation → Valuation → Valuation
base_of d row now q = cond (has d.inputs q) (row q) (now q)

-- the valuation after the updates of those edge processes that have their edge, in order
abbrev pub after_edges : Machine → Valuation → Valuation → Valuation
after_edges d last w = put_each (λ e. only_if (e.runs last w) (e.updates w)) d.edges w
