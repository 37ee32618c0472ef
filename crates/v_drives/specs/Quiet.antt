-- Which functions of an instance read no signal.
use Rattle.std.specs.Prelude.{◌≡◌, ℕ, Bool, List, slice_get}
use Rattle.v_meaning.specs.Values.{is_empty}
use Rattle.v_constants.specs.Constants.{or_true}
use Rattle.v_exec.specs.Modules.{callee_in}
use Rattle.v_modules.specs.declared.table.Table.{Table}

-- for each item of a module whether the function there reads no signal, in an instance whose signals are numbered from a number on
pub record AreQuietIn (first : ℕ) (t : Table) (quiet : List Bool) : Type 0 where
  pub right : (i : ℕ) → or_true (slice_get quiet i) ≡ is_empty (callee_in first t.functions t.names i).reads
