-- What runs of statements and waits for edges are made of (IEEE 1800-2017 clauses 9.4.2, 10.4.1, 10.4.2 and 12.4).
use Rattle.std.specs.Prelude.{Bool, true, false, List, [], ◌∷◌, Option, Some, None}
use Rattle.b4_core.specs.declared.bit.Bit4.{Bit4}
use Rattle.b4_core.specs.declared.bit.Bit4.TheVariants.{Zero, One, X, Z}
use Rattle.b4_core.specs.declared.bit.Edge.{Edge}
use Rattle.b4_core.specs.declared.bit.Edge.TheVariants as E
use Rattle.row_machine.specs.Valuation.{Valuation, Changes, put}

-- what the bits hold now, what blocking assignments have written, and the pending updates of nonblocking ones
pub record Progress : Type 0 where
  pub now : Valuation
  pub written : Changes
  pub pending : Changes

-- no bit is assigned
abbrev pub unchanged : Changes
unchanged q = None

-- what a later assignment writes, and else what an earlier one wrote
abbrev pub later_or : Option Bit4 → Option Bit4 → Option Bit4
later_or (Some b) earlier = Some b
later_or None earlier = earlier

abbrev pub then_changes : Changes → Changes → Changes
then_changes earlier later q = later_or (later q) (earlier q)

-- a run begins on a valuation
abbrev pub begun : Valuation → Progress
begun v = record { now = v; written = unchanged; pending = unchanged }

-- a blocking assignment: the bits hold their new values at once
abbrev pub assign_now : Changes → Progress → Progress
assign_now c p = record { now = put c p.now; written = then_changes p.written c; pending = p.pending }

-- a nonblocking assignment: its update is pending
abbrev pub assign_later : Changes → Progress → Progress
assign_later c p = record { now = p.now; written = p.written; pending = then_changes p.pending c }

-- one statement after the other
abbrev pub in_order : List (Progress → Progress) → Progress → Progress
in_order [] p = p
in_order (s ∷ ss) p = in_order ss (s p)

-- an unknown condition isn't true
abbrev pub is_one : Bit4 → Bool
is_one Zero = false
is_one One = true
is_one X = false
is_one Z = false

-- whether an edge is the one that is waited for: `posedge`, or else `negedge`
abbrev pub is_edge : Bool → Edge → Bool
is_edge true E.Pos = true
is_edge true E.Neg = false
is_edge true E.None = false
is_edge false E.Pos = false
is_edge false E.Neg = true
is_edge false E.None = false
