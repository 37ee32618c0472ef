use Rattle.std.specs.Prelude.{ℕ, zero, suc, ◌+◌, ◌*◌, List, [], ◌∷◌, Bool, true, false, ◌&&◌, cond, length, is_some}
use Rattle.ll_engine.specs.declared.table.Part.{Part}
use Rattle.ll_engine.specs.declared.table.Part.TheVariants.{Term, Non, Maybe, Many, Chain}
use Rattle.ll_engine.specs.declared.table.Row.{Row}
use Rattle.ll_engine.specs.declared.tables.Head.{Head}
use Rattle.ll_engine.specs.Knows.{row_blank, rank}
use Rattle.ll_engine.specs.Machine.{Level}

-- A number that falls with each move on the rows that are being read, as long as no symbol is taken.

-- the part may be left out, by what is kept of the heads
abbrev pub can_skip : List Head → Part → Bool
can_skip heads (Term a) = false
can_skip heads (Non h) = is_some (row_blank heads h)
can_skip heads (Maybe h) = true
can_skip heads (Many h) = true
can_skip heads (Chain h) = true

abbrev pub skips : List Head → List Part → Bool
skips heads [] = true
skips heads (p ∷ ps) = can_skip heads p && skips heads ps

-- the number of parts of a table
abbrev pub size : List Row → ℕ
size [] = 0
size (row ∷ rows) = length row.parts + size rows

abbrev pub grown : ℕ → ℕ → ℕ
grown n zero = 1
grown n (suc k) = n * grown n k

-- what opening a row of the head may cost
abbrev pub price : List Row → List Head → ℕ → ℕ
price t heads h = grown (suc (suc (size t))) (suc (rank heads h))

abbrev pub cost : List Row → List Head → Part → ℕ
cost t heads (Term a) = 1
cost t heads (Non h) = price t heads h
cost t heads (Maybe h) = price t heads h
cost t heads (Many h) = price t heads h
cost t heads (Chain h) = price t heads h

-- the cost of the parts up to the first that is not left out
abbrev pub lead : List Row → List Head → List Part → ℕ
lead t heads [] = 0
lead t heads (p ∷ ps) = cost t heads p + cond (can_skip heads p) (lead t heads ps) 0

abbrev pub weight : List Row → List Head → List Level → ℕ
weight t heads [] = 0
weight t heads (l ∷ ls) = suc (lead t heads l.left) + cond (skips heads l.left) (weight t heads ls) 0
