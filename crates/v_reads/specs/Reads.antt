-- What expressions, targets, statements and functions read, signal by signal.
use Rattle.std.specs.Prelude.{◌≡◌, ℕ, ◌==◌, Bool, ◌||◌, List, [], ◌∷◌, ◌++◌, Option, Some, None, slice_get}
use Rattle.std.specs.List.{list_any}
use Rattle.v_tree.specs.declared.statements.VBranch.{VBranch}
use Rattle.v_tree.specs.declared.statements.VCaseItem.{VCaseItem, fold-VCaseItem}
use Rattle.v_meaning.specs.Scopes as S
use Rattle.v_meaning.specs.Scopes.{Use}
use Rattle.v_meaning.specs.Functions.{callees_within}
use Rattle.v_meaning.specs.Modules.{functions as functions_in}
use Rattle.v_meaning.specs.Statements.{Doing, Item, nothing, doing_of, branch_step, item_step, stmt_step}
use Rattle.v_meaning.specs.Values.{all_reads}
use Rattle.v_footprints.specs.Footprints.{uses}
use Rattle.v_eval.specs.declared.scopes.Scope.{Scope}
use Rattle.v_eval.specs.Scopes.{callee_at, signals_of}

-- whether a number is one of these
abbrev pub is_among : List ℕ → ℕ → Bool
is_among ns n = list_any (λ m. m == n) ns

-- a list with the signals and locals of these uses too
pub record Adds (old new : List ℕ) (us : List Use) : Type 0 where
  pub same : (n : ℕ) → is_among new n ≡ (is_among old n || uses us n)

-- the signals and locals of these uses
pub record AreOf (ns : List ℕ) (us : List Use) : Type 0 where
  pub same : (n : ℕ) → is_among ns n ≡ uses us n

-- one of these lists, empty where there is none
abbrev pub or_none : Option (List ℕ) → List ℕ
or_none None = []
or_none (Some ns) = ns

-- for each item of the module, the signals that the function there reads
pub record FunctionsRead (s : Scope) (lists : List (List ℕ)) : Type 0 where
  pub right : (i n : ℕ) → is_among (or_none (slice_get lists i)) n ≡ uses (callee_at s (Some i)).reads n

-- the same place, where calls go so deep
abbrev pub at_depth : ℕ → Scope → Scope
at_depth d s = record s { depth = d }

-- the module around its functions
abbrev pub around : Scope → S.Scope
around s = record {
  names = signals_of s;
  next = 0;
  callee = callees_within s.depth (signals_of s) (functions_in s.module.now.items.now);
}

abbrev pub item_of : VCaseItem → Item
item_of = fold-VCaseItem Doing Item Doing branch_step item_step stmt_step

-- what an item of a `case` reads that isn't the `default`, and all such items
abbrev pub item_read : Item → S.Scope → List Use
item_read i sc = elim i.values [ None ↦ [] | Some ms ↦ all_reads ms sc ++ i.body.reads sc ]

abbrev pub items_read : List Item → S.Scope → List Use
items_read [] sc = []
items_read (i ∷ is) sc = item_read i sc ++ items_read is sc

-- what an `else` does
abbrev pub else_doing : Option VBranch → Doing
else_doing None = nothing
else_doing (Some b) = doing_of b
