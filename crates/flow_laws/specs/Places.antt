-- What a write through an expression changes: the bits that are known before.
use Rattle.std.specs.Prelude.{◌≡◌, true, false, List, None, is_some}
use Rattle.b4_core.specs.declared.bit.Bit4.{Bit4}
use Rattle.row_machine.specs.Valuation.{Place}
use Rattle.sv_types.specs.declared.expression.Expr.{Expr}
use Rattle.sv_types.specs.Surroundings.{Around, Sight}
use Rattle.sv_types.specs.Meanings.{Meaning}
use Rattle.sv_types.specs.Flows.{covered, uses_of, surely_written}
use Rattle.sv_types.specs.Expressions.{meaning}
use Rattle.flow_laws.specs.Hangs.{Seen, Agree}

-- what a write changes hangs on the reads of the indices; it is no bit but those that may be written, and each that surely is
pub record IsPlace (m : Meaning) : Type 0 where
  pub same : (k : Sight) (a b : Around) → Seen k a → Seen k b → Agree (m.indices k) a b → (v : List Bit4) (q : Place) → m.puts a v q ≡ m.puts b v q
  pub within : (k : Sight) (a : Around) → Seen k a → (v : List Bit4) (q : Place) → covered (uses_of (m.writes k)) q ≡ false → m.puts a v q ≡ None
  pub sure : (k : Sight) (a : Around) → Seen k a → (v : List Bit4) (q : Place) → surely_written (m.writes k) q ≡ true → is_some (m.puts a v q) ≡ true

abbrev pub ExpressionsArePlaces : Type 0
ExpressionsArePlaces = (e : Expr) → IsPlace (meaning e)
