-- The least of some tokens, and of some breaks.
use Rattle.std.specs.Prelude.{◌≡◌, ℕ, ◌≤◌, min, false, List, [], ◌∷◌, Option, Some, None}
use Rattle.row_machine.specs.Valuation.{Member}
use Rattle.design_breaks.specs.declared.Break.{Break}
use Rattle.design_breaks.specs.Breaks.{is_less, least_of}

abbrev pub with_token : Option ℕ → ℕ → Option ℕ
with_token None at = Some at
with_token (Some t) at = Some (min t at)

pub record IsLeastTokenAt (ts : List ℕ) (t : ℕ) : Type 0 where
  pub there : Member ts t
  pub least : (u : ℕ) → Member ts u → t ≤ u

abbrev pub IsLeastToken : List ℕ → Option ℕ → Type 0
IsLeastToken ts None = (t : ℕ) → Member ts t → ⊥
IsLeastToken ts (Some t) = IsLeastTokenAt ts t

-- the least of a token and those of a list
unfoldable pub least_from : Option ℕ → List ℕ → Option ℕ
least_from least [] = least
least_from least (t ∷ ts) = least_from (with_token least t) ts

pub record IsLeastAt (bs : List Break) (b : Break) : Type 0 where
  pub there : Member bs b
  pub least : (c : Break) → Member bs c → is_less c b ≡ false

abbrev pub IsLeast : List Break → Option Break → Type 0
IsLeast bs None = (b : Break) → Member bs b → ⊥
IsLeast bs (Some b) = IsLeastAt bs b

abbrev pub LeastIsLeast : Type 0
LeastIsLeast = (bs : List Break) (r : Option Break) → IsLeast bs r → least_of bs ≡ r
