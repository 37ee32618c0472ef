-- What statements name, as sets.
use Rattle.std.specs.Prelude.{◌≡◌, ℕ, ◌==◌, Bool, ◌||◌, List, [], ◌∷◌, ◌++◌, Option, Some, None}
use Rattle.std.specs.List.{list_any}
use Rattle.v_tree.specs.declared.statements.VBranch.{VBranch}
use Rattle.v_tree.specs.declared.statements.VCaseItem.{VCaseItem, fold-VCaseItem}
use Rattle.v_meaning.specs.Scopes.{Scope}
use Rattle.v_meaning.specs.Values.{all_names}
use Rattle.v_meaning.specs.Statements.{Doing, Item, nothing, doing_of, branch_step, item_step, stmt_step}

-- whether a number is one of these
abbrev pub is_among : List ℕ → ℕ → Bool
is_among ns n = list_any (λ m. m == n) ns

-- a list with these numbers too
pub record Adds (old new ns : List ℕ) : Type 0 where
  pub same : (n : ℕ) → is_among new n ≡ (is_among old n || is_among ns n)

abbrev pub item_of : VCaseItem → Item
item_of = fold-VCaseItem Doing Item Doing branch_step item_step stmt_step

-- what an item names that isn't the `default`, and all such items
abbrev pub item_named : Item → Scope → List ℕ
item_named i sc = elim i.values [ None ↦ [] | Some ms ↦ all_names ms sc ++ i.body.names sc ]

abbrev pub items_named : List Item → Scope → List ℕ
items_named [] sc = []
items_named (i ∷ is) sc = item_named i sc ++ items_named is sc

-- what an `else` does
abbrev pub else_doing : Option VBranch → Doing
else_doing None = nothing
else_doing (Some b) = doing_of b
