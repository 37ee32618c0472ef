-- The tokens of a target text with their places.
use Rattle.std.specs.Prelude.{ℕ, zero, suc, List, [], ◌∷◌}
use Rattle.v_tree.specs.Tokens.{Token, gap, cut, first_cut}

-- a token, the number of its first byte in the text, and how many bytes it has
pub record Placed : Type 0 where
  pub token : Token
  pub at : ℕ
  pub size : ℕ

-- the tokens from this byte on, where the first bytes may still belong to what stands before them
abbrev pub placed_from : ℕ → ℕ → List ℕ → List Placed
placed_from at further [] = []
placed_from at (suc further) (c ∷ text) = placed_from (suc at) further text
placed_from at zero (c ∷ text) = elim (first_cut c text) [
  | gap further ↦ placed_from (suc at) further text
  | cut token further ↦ record { token = token; at = at; size = suc further } ∷ placed_from (suc at) further text
]

-- the tokens of a text
abbrev pub placed : List ℕ → List Placed
placed text = placed_from 0 0 text
