-- What items of a `case` match, and which one runs.
use Rattle.std.specs.Prelude.{◌≡◌, ℕ, ◌<◌, max, Bool, true, false, ◌&&◌, List, [], ◌∷◌, length, Option, Some, None, IfSome, slice_index_or}
use Rattle.row_machine.specs.Valuation.{Valuation}
use Rattle.v_tree.specs.declared.statements.VCaseItem.{VCaseItem, fold-VCaseItem}
use Rattle.v_tree.specs.declared.statements.VCaseKind.{VCaseKind}
use Rattle.v_meaning.specs.Scopes.{Scope}
use Rattle.v_meaning.specs.Values.{Meaning}
use Rattle.v_meaning.specs.Runs as R
use Rattle.v_meaning.specs.Statements.{Doing, Item, nothing, branch_step, item_step, stmt_step, item_runs, otherwise, cases}
use Rattle.v_eval.specs.declared.operators.Context.{Context}
use Rattle.v_exec.specs.declared.selectors.Selector.{Selector}

abbrev pub item_of : VCaseItem → Item
item_of = fold-VCaseItem Doing Item Doing branch_step item_step stmt_step

-- the values of an item, of which a `default` has none
abbrev pub values_of : Item → List Meaning
values_of i = elim i.values [ None ↦ [] | Some ms ↦ ms ]

-- the larger width, and a sign only if all have one
abbrev pub widened : Context → List Meaning → Scope → Context
widened at [] sc = at
widened at (m ∷ ms) sc = widened (record { width = max at.width (m.width sc); signed = at.signed && m.signed }) ms sc

abbrev pub selector_of : Selector → R.Selector
selector_of s = record { kind = s.kind; width = s.at.width; signed = s.at.signed; value = s.value }

-- the item with a number, if one is chosen, and else nothing
abbrev pub run_at : List Item → Option ℕ → R.Run
run_at items None = R.idle
run_at items (Some k) = (slice_index_or items k (record { values = None; body = nothing })).body.run

-- what the `default` runs
pub record IsDefault (items : List Item) (o : Option ℕ) : Type 0 where
  pub there : IfSome o (λ k. k < length items)
  pub runs : (otherwise items).run ≡ run_at items o

-- what is chosen among items by what is held
pub record Chooses (on : R.Selector) (items : List Item) (sc : Scope) (held : Valuation) (o : Option ℕ) : Type 0 where
  pub there : IfSome o (λ k. k < length items)
  pub runs : (v : Valuation) (s : R.State) → held ≡ R.current v s → R.first_match on (item_runs items) (otherwise items).run sc v s ≡ run_at items o sc v s

abbrev pub is_default_item : Item → Bool
is_default_item i = elim i.values [ None ↦ true | Some ms ↦ false ]

-- what a `case` runs, chosen by what is held
pub record ChoosesIn (kind : VCaseKind) (on : Meaning) (items : List Item) (sc : Scope) (held : Valuation) (o : Option ℕ) : Type 0 where
  pub there : IfSome o (λ k. k < length items)
  pub runs : (v : Valuation) (s : R.State) → held ≡ R.current v s → (cases kind on items).run sc v s ≡ run_at items o sc v s
