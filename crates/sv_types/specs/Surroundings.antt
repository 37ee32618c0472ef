-- What an expression or a statement stands in: what signals and locals hold, the functions that can be called, and how
-- much of its run is left.
use Rattle.std.specs.Prelude.{ℕ, zero, suc, ◌+◌, ◌^◌, nat_lt, Bool, List, Option, Some, None}
use Rattle.b4_core.specs.declared.bit.Bit4.{Bit4}
use Rattle.picks.specs.RowMachine.{Place, Valuation}
use Rattle.sv_types.specs.declared.statement.Way.{Way}

-- Signals and locals have one numbering: the locals stand behind all signals, whose numbers are below 2^32.
abbrev pub local_number : ℕ → ℕ
local_number n = 2 ^ 32 + n

abbrev pub is_signal : ℕ → Bool
is_signal n = nat_lt n (2 ^ 32)

-- Why a run stops: it reads a signal that isn't held, at a token, or it takes too many turns or statements.
pub data Stop : Type 0 where
  NotHeld : ℕ → Stop
  Turns : Stop

-- how many statements may still run, if there is a limit, and the first thing that stopped the run
pub record Tally : Type 0 where
  pub left : Option ℕ
  pub stop : Option Stop

abbrev pub or_else : Option Stop → Stop → Option Stop
or_else (Some s) t = Some s
or_else None t = Some t

-- the run stops here, unless it did before
abbrev pub stopped : Stop → Tally → Tally
stopped s t = record { left = t.left; stop = or_else t.stop s }

abbrev pub spend : Option ℕ → Tally → Tally
spend None t = t
spend (Some zero) t = stopped Turns t
spend (Some (suc n)) t = record { left = Some n; stop = t.stop }

-- one more statement runs
abbrev pub counted : Tally → Tally
counted t = spend t.left t

-- a formal: its local, its type, and which way it passes its value
pub record Parameter : Type 0 where
  pub number : ℕ
  pub two_state : List Bool
  pub signed : Bool
  pub way : Way

-- a run that stopped goes no further
abbrev pub onward : (Tally → Tally) → Tally → Tally
onward f t = elim t.stop [ None ↦ f t | Some s ↦ t ]

-- what a call gives: the bits of the result, and those of each formal in order
pub record Called : Type 0 where
  pub result : List Bit4
  pub finals : List (List Bit4)

-- a function or task, by its place in the list of functions: what it gives for what its formals are given, and what of a run
-- it takes
pub record Callee : Type 0 where
  pub formals : List Parameter
  pub run : List (List Bit4) → Called
  pub effort : List (List Bit4) → Tally → Tally

-- What signals and locals hold, which signals are held at all, and the functions.
pub record Around : Type 0 where
  pub now : Valuation
  pub holds : ℕ → Bool
  pub callee : ℕ → Callee

-- A read or a write: the bits from low up to, but not including, high of a signal or local, at a token.
pub record Use : Type 0 where
  pub number : ℕ
  pub low : ℕ
  pub high : ℕ
  pub at : ℕ

-- A write, and whether it is of exactly these bits.
pub record Write : Type 0 where
  pub of : Use
  pub exact : Bool

-- What is known before a run: the bits that are sure, which are those of loop variables, and what they hold.
pub record Sight : Type 0 where
  pub around : Around
  pub sure : Place → Bool
