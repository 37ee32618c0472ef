-- The path behind that of a block.
use Rattle.std.proofs.Common.{◌≡◌, ℕ, List, [], ◌∷◌, ◌++◌, refl, sym, ap, ◌∙◌, append_assoc}
use Rattle.typing_stmts.specs.RoutinePaths.{path_behind}

pub at-top : (block name : List ℕ) → block ≡ [] → name ≡ path_behind block name
at-top block name e = ap (λ (b : List ℕ). path_behind b name) (sym e)

pub in-block : (block name made more : List ℕ) → (block ≡ [] → ⊥) → made ≡ block ++ 46 ∷ [] → more ≡ made ++ name → more ≡ path_behind block name
in-block [] name made more there e f = absurd (there refl)
in-block (c ∷ cs) name made more there e f = f ∙ ap (λ (x : List ℕ). x ++ name) e ∙ append_assoc (c ∷ cs) (46 ∷ []) name
