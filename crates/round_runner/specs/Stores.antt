-- Stores: what each signal of a design holds, as one vector a signal, the least bit first.
use Rattle.std.specs.Prelude.{◌≡◌, ◌≢◌, ℕ, ◌<◌, List, [], length, map, slice_index_or}
use Rattle.b4_core.specs.declared.bit.Bit4.{Bit4}
use Rattle.b4_core.specs.declared.bit.Bit4.TheVariants.{X}
use Rattle.row_machine.specs.Valuation.{Valuation, Changes, put}

-- the vector of a signal
abbrev pub vector_of : List (List Bit4) → ℕ → List Bit4
vector_of vs n = slice_index_or vs n []

-- the valuation that a store holds; a bit that isn't there is x
abbrev pub holding : List (List Bit4) → Valuation
holding vs q = slice_index_or (vector_of vs q.signal) q.bit X

-- how many bits each signal has
abbrev pub widths : List (List Bit4) → List ℕ
widths vs = map (λ (v : List Bit4). length v) vs

-- a store with so many bits a signal that holds a valuation
pub record Holds (ws : List ℕ) (v : Valuation) (vs : List (List Bit4)) : Type 0 where
  pub values : holding vs ≡ v
  pub shape : widths vs ≡ ws

-- a store after changes of what it held
pub record Changed (c : Changes) (before after : List (List Bit4)) : Type 0 where
  pub values : holding after ≡ put c (holding before)
  pub shape : widths after ≡ widths before

-- the first signal whose vectors differ, in at least one bit
pub record FirstChange (vs us : List (List Bit4)) (n : ℕ) : Type 0 where
  pub here : n < length vs
  pub bit : ℕ
  pub differs : slice_index_or (vector_of vs n) bit X ≢ slice_index_or (vector_of us n) bit X
  pub before : (k : ℕ) → k < n → vector_of vs k ≡ vector_of us k
