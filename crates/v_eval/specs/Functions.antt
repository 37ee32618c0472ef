-- Functions among the items of a module.
use Rattle.std.specs.Prelude.{ℕ, suc, cond, List, [], ◌∷◌, Option, Some, None, slice_get}
use Rattle.std.specs.Str.{bytes_eq}
use Rattle.v_tree.specs.Names.{Name}
use Rattle.v_tree.specs.declared.items.VFunction.{VFunction}
use Rattle.v_tree.specs.declared.items.VItem.{VItem}
use Rattle.v_tree.specs.declared.items.VLocal.{VLocal}
use Rattle.v_tree.specs.declared.items.VItem.TheVariants as I

-- the function at an item
abbrev pub function_in : Option VItem → Option VFunction
function_in None = None
function_in (Some (I.Signal s)) = None
function_in (Some (I.Initial i)) = None
function_in (Some (I.Process p)) = None
function_in (Some (I.Function f)) = Some f
function_in (Some (I.Instance i)) = None

abbrev pub function_at : List VItem → Option ℕ → Option VFunction
function_at items None = None
function_at items (Some i) = function_in (slice_get items i)

-- where the first function with a name stands, of items that are numbered from k on
abbrev pub place_of : ℕ → List VItem → Name → Option ℕ
place_of k [] name = None
place_of k (I.Signal s ∷ is) name = place_of (suc k) is name
place_of k (I.Initial i ∷ is) name = place_of (suc k) is name
place_of k (I.Process p ∷ is) name = place_of (suc k) is name
place_of k (I.Function f ∷ is) name = cond (bytes_eq f.name name) (Some k) (place_of (suc k) is name)
place_of k (I.Instance i ∷ is) name = place_of (suc k) is name

-- the inputs of a function
abbrev pub inputs_in : Option VFunction → List VLocal
inputs_in None = []
inputs_in (Some f) = f.inputs
