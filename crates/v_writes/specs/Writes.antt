-- Bits that may be written, as the code has them.
use Rattle.std.specs.Prelude.{Bool, cond, List, [], ◌∷◌, ◌++◌, Some, None}
use Rattle.v_meaning.specs.Scopes.{Use, Scope}
use Rattle.v_meaning.specs.Statements.{Doing, Item}
use Rattle.v_writes.specs.declared.targets.Written.{Written}

abbrev pub use_in : Written → Use
use_in w = record { number = w.number; low = w.low; high = w.high }

-- what a statement may write by its nonblocking assignments, or by its blocking ones
abbrev pub made : Bool → Doing → Scope → List Use
made later d sc = cond later (d.later sc) (d.writes sc)

-- an item of a `case` that isn't the `default`, and all such items
abbrev pub item_made : Bool → Item → Scope → List Use
item_made later i sc = elim i.values [ None ↦ [] | Some ms ↦ made later i.body sc ]

abbrev pub items_made : Bool → List Item → Scope → List Use
items_made later [] sc = []
items_made later (i ∷ is) sc = item_made later i sc ++ items_made later is sc
