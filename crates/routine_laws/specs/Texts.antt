-- Texts of functions and tasks: they are written, and what their bodies assign to is no signal (E610).
use Rattle.std.specs.Prelude.{◌≡◌, ℕ, Bool, true, ◌&&◌, List, Some, map}
use Rattle.sv_tree.specs.declared.functions.Formal as G
use Rattle.sv_tree.specs.declared.functions.FunctionResult.{FunctionResult}
use Rattle.sv_tree.specs.declared.functions.FunctionResult.TheVariants as R
use Rattle.sv_tree.specs.declared.ports.PortText.{PortText}
use Rattle.sv_tree.specs.declared.ports.PortText.TheVariants as P
use Rattle.sv_tree.specs.declared.statements.BlockItem.{BlockItem}
use Rattle.expr_type.specs.Names.{Context, RoutineText, OfFunction, OfTask}
use Rattle.expr_type.specs.Functions.{formals_of}
use Rattle.typing_walks.specs.Written.{all}
use Rattle.typing_walks.specs.WrittenTypes.{dims_written, type_written}
use Rattle.stmt_laws.specs.Written.{items_written}
use Rattle.routine_laws.specs.Names.{signals_of, items_local}

abbrev pub port_written : PortText → Bool
port_written (P.Typed of name ds) = type_written of && dims_written ds
port_written (P.Bare name ds) = dims_written ds
port_written (P.Modport of dot modport name) = true

abbrev pub formals_written : List G.Formal → Bool
formals_written fs = all (map (λ (f : G.Formal). port_written f.text) fs)

abbrev pub result_written : FunctionResult → Bool
result_written (R.Void keyword) = true
result_written (R.Value of) = type_written of

-- a function's head and items
abbrev pub head_written : RoutineText → Bool
head_written (OfFunction f) = (result_written f.of && dims_written f.unpacked) && formals_written (formals_of f.formals)
head_written (OfTask t) = formals_written (formals_of t.formals)

abbrev pub items_of : RoutineText → List BlockItem
items_of (OfFunction f) = f.items
items_of (OfTask t) = t.items

-- a body where names find what they find here
pub record SoundItems (k : Context) (items : List BlockItem) : Type 0 where
  pub written : items_written items ≡ true
  pub locals : items_local (signals_of k) items ≡ true

pub record SoundText (k : Context) (t : RoutineText) : Type 0 where
  pub head : head_written t ≡ true
  pub items : SoundItems k (items_of t)

-- each function and task that the text can call
pub record AllSoundTexts (k : Context) : Type 0 where
  pub texts : (n : ℕ) (t : RoutineText) → k.text n ≡ Some t → SoundText k t
