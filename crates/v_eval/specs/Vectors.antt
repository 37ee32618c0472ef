-- What vectors are filled up with, and what operators give of vectors without a bit.
use Rattle.std.specs.Prelude.{Bool, true, false, List, [], ◌∷◌, ◌++◌}
use Rattle.b4_core.specs.declared.bit.Bit4.{Bit4}
use Rattle.b4_core.specs.declared.bit.Bit4.TheVariants.{Zero, One}
use Rattle.b4_core.specs.declared.operators.OrdOp.{OrdOp}
use Rattle.b4_core.specs.declared.operators.OrdOp.TheVariants as O
use Rattle.b4_core.specs.declared.operators.RedOp.{RedOp}
use Rattle.b4_core.specs.declared.operators.RedOp.TheVariants as R
use Rattle.b4_core.specs.Vectors.{top_bit}

-- the top bit where it is signed, else 0
abbrev pub fill_bit : Bool → List Bit4 → Bit4
fill_bit true v = top_bit v
fill_bit false v = Zero

abbrev pub none_ordered : OrdOp → Bit4
none_ordered O.Less = Zero
none_ordered O.LessEqual = One
none_ordered O.Greater = Zero
none_ordered O.GreaterEqual = One

abbrev pub none_reduced : RedOp → Bit4
none_reduced R.And = One
none_reduced R.Or = Zero
none_reduced R.Xor = Zero
none_reduced R.Nand = Zero
none_reduced R.Nor = One
none_reduced R.Xnor = One

-- pieces, the first on top
abbrev pub stacked : List (List Bit4) → List Bit4
stacked [] = []
stacked (v ∷ vs) = stacked vs ++ v
