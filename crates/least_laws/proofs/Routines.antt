-- The tokens of each function and task of a tree ascend, where those of the tree do.
use Rattle.std.proofs.Common.{◌≡◌, ℕ, ◌≤◌, Bool, true, false, ◌==◌, cond, List, [], ◌∷◌, ◌++◌, map, Option, Some, None, sym, subst}
use Rattle.std.specs.Prelude.{⊤, flat_map}
use Rattle.sv_tree.specs.declared.items.CaseGenerateItem.{CaseGenerateItem, CaseGenerateItem-F, fold-CaseGenerateItem, roll-CaseGenerateItem, map-CaseGenerateItem, fold-roll-CaseGenerateItem}
use Rattle.sv_tree.specs.declared.items.GenerateBlock.{GenerateBlock, GenerateBlock-F, fold-GenerateBlock, roll-GenerateBlock, map-GenerateBlock, fold-roll-GenerateBlock}
use Rattle.sv_tree.specs.declared.items.GenerateElse.{GenerateElse, GenerateElse-F, fold-GenerateElse, roll-GenerateElse, map-GenerateElse, fold-roll-GenerateElse}
use Rattle.sv_tree.specs.declared.items.Item.{Item, Item-F, roll-Item, map-Item, ind-Item, fold-roll-Item}
use Rattle.sv_tree.specs.declared.units.Module.{Module}
use Rattle.sv_tree.specs.declared.units.PackageItem.{PackageItem}
use Rattle.sv_tree.specs.declared.units.PackageItem.TheVariants as P
use Rattle.sv_tree.specs.declared.units.SourceTree.{SourceTree}
use Rattle.sv_tree.specs.declared.units.Unit.{Unit as Description}
use Rattle.sv_tree.specs.declared.units.Unit.TheVariants as U
use Rattle.expr_type.specs.Names.{RoutineText, OfFunction, OfTask}
use Rattle.expr_type.specs.Functions.{name_of}
use Rattle.expr_type.specs.Placed.{Ascend}
use Rattle.expr_type.specs.Routines as T
use Rattle.expr_type.specs.Routines.{Routines, item_routines, module_routines, named_at, package_item, routines, unit_routines}
use Rattle.order_laws.specs.Ordered.{Tokens, in_row, expr_tokens, exprs_tokens, routine_tokens}
use Rattle.order_laws.proofs.Tokens.{split}
use Rattle.least_laws.specs.Trees as W
use Rattle.least_laws.specs.Trees.{Somewhere, generate_loop_tokens, choice_tokens, block_tokens, item_tokens, else_tokens, header_tokens, module_tokens, package_item_tokens, unit_tokens, tree_tokens}
use Rattle.least_laws.proofs.Levels.{as-tokens}

abbrev pub AllAscend : Routines → Type 0
AllAscend [] = ⊤
AllAscend (r ∷ rs) = Somewhere (routine_tokens r) × AllAscend rs

both-ascend : (rs ss : Routines) → AllAscend rs → AllAscend ss → AllAscend (rs ++ ss)
both-ascend [] ss a b = b
both-ascend (r ∷ rs) ss a b = (a.0, both-ascend rs ss a.1 b)

-- what tokens that ascend in a part of a text give
abbrev Gives : Tokens → Routines → Type 0
Gives ts rs = (lo hi : ℕ) → lo ≤ hi → Ascend lo hi ts → AllAscend rs

alone-gives : (r : RoutineText) → Gives (routine_tokens r) (r ∷ [])
alone-gives r lo hi h a = ((lo, hi, h, a), tt)

none-gives : (ts : Tokens) → Gives ts []
none-gives ts lo hi h a = tt

both-give : (ts us : Tokens) (rs ss : Routines) → Gives ts rs → Gives us ss → Gives (ts ++ us) (rs ++ ss)
both-give ts us rs ss f g lo hi h a =
    let s = split ts us lo hi h a in
    both-ascend rs ss (f lo s.between s.from s.before) (g s.between hi s.to s.behind)

behind-gives : (ts us : Tokens) (rs : Routines) → Gives us rs → Gives (ts ++ us) rs
behind-gives ts us rs g lo hi h a = let s = split ts us lo hi h a in g s.between hi s.to s.behind

-- those of each part of a list
module _ {A : Type 0} (w : A → Tokens) (f : A → Routines) (step : (x : A) → Gives (w x) (f x)) where
  flat-gives : (xs : List A) → Gives (in_row (map w xs)) (flat_map f xs)
  flat-gives [] lo hi h a = tt
  flat-gives (x ∷ xs) lo hi h a = both-give (w x) (in_row (map w xs)) (f x) (flat_map f xs) (step x) (flat-gives xs) lo hi h a

-- items of modules, and generate constructs
abbrev choice_routines : CaseGenerateItem → Routines
choice_routines = fold-CaseGenerateItem Routines Routines Routines Routines T.choice_step T.block_step T.item_step T.else_step

abbrev block_routines : GenerateBlock → Routines
block_routines = fold-GenerateBlock Routines Routines Routines Routines T.choice_step T.block_step T.item_step T.else_step

abbrev else_routines : GenerateElse → Routines
else_routines = fold-GenerateElse Routines Routines Routines Routines T.choice_step T.block_step T.item_step T.else_step

abbrev OfChoice : CaseGenerateItem → Type 0
OfChoice x = Gives (choice_tokens x) (choice_routines x)

abbrev OfBlock : GenerateBlock → Type 0
OfBlock x = Gives (block_tokens x) (block_routines x)

abbrev OfItem : Item → Type 0
OfItem x = Gives (item_tokens x) (item_routines x)

abbrev OfElse : GenerateElse → Type 0
OfElse x = Gives (else_tokens x) (else_routines x)

abbrev AChoice : Type 0
AChoice = (x : CaseGenerateItem) × OfChoice x

abbrev ABlock : Type 0
ABlock = (x : GenerateBlock) × OfBlock x

abbrev AnItem : Type 0
AnItem = (x : Item) × OfItem x

abbrev AnElse : Type 0
AnElse = (x : GenerateElse) × OfElse x

abbrev choice_in : CaseGenerateItem-F AChoice ABlock AnItem AnElse → CaseGenerateItem-F CaseGenerateItem GenerateBlock Item GenerateElse
choice_in = map-CaseGenerateItem AChoice ABlock AnItem AnElse CaseGenerateItem GenerateBlock Item GenerateElse (λ e. e.0) (λ e. e.0) (λ e. e.0) (λ e. e.0)

abbrev block_in : GenerateBlock-F AChoice ABlock AnItem AnElse → GenerateBlock-F CaseGenerateItem GenerateBlock Item GenerateElse
block_in = map-GenerateBlock AChoice ABlock AnItem AnElse CaseGenerateItem GenerateBlock Item GenerateElse (λ e. e.0) (λ e. e.0) (λ e. e.0) (λ e. e.0)

abbrev item_in : Item-F AChoice ABlock AnItem AnElse → Item-F CaseGenerateItem GenerateBlock Item GenerateElse
item_in = map-Item AChoice ABlock AnItem AnElse CaseGenerateItem GenerateBlock Item GenerateElse (λ e. e.0) (λ e. e.0) (λ e. e.0) (λ e. e.0)

abbrev else_in : GenerateElse-F AChoice ABlock AnItem AnElse → GenerateElse-F CaseGenerateItem GenerateBlock Item GenerateElse
else_in = map-GenerateElse AChoice ABlock AnItem AnElse CaseGenerateItem GenerateBlock Item GenerateElse (λ e. e.0) (λ e. e.0) (λ e. e.0) (λ e. e.0)

abbrev items_of : List AnItem → List Item
items_of ys = map (λ e. e.0) ys

abbrev choices_of : List AChoice → List CaseGenerateItem
choices_of ys = map (λ e. e.0) ys

each-item : (ys : List AnItem) → Gives (in_row (map item_tokens (items_of ys))) (T.joined (map item_routines (items_of ys)))
each-item [] lo hi h a = tt
each-item (y ∷ ys) lo hi h a = both-give (item_tokens y.0) (in_row (map item_tokens (items_of ys))) (item_routines y.0) (T.joined (map item_routines (items_of ys))) y.1 (each-item ys) lo hi h a

each-choice : (ys : List AChoice) → Gives (in_row (map choice_tokens (choices_of ys))) (T.joined (map choice_routines (choices_of ys)))
each-choice [] lo hi h a = tt
each-choice (y ∷ ys) lo hi h a = both-give (choice_tokens y.0) (in_row (map choice_tokens (choices_of ys))) (choice_routines y.0) (T.joined (map choice_routines (choices_of ys))) y.1 (each-choice ys) lo hi h a

-- a level of an item
abbrev choice_of : CaseGenerateItem-F CaseGenerateItem GenerateBlock Item GenerateElse → Tokens
choice_of z = W.choice_step (map-CaseGenerateItem CaseGenerateItem GenerateBlock Item GenerateElse Tokens Tokens Tokens Tokens choice_tokens block_tokens item_tokens else_tokens z)

abbrev read_choice : CaseGenerateItem-F CaseGenerateItem GenerateBlock Item GenerateElse → Routines
read_choice z = T.choice_step (map-CaseGenerateItem CaseGenerateItem GenerateBlock Item GenerateElse Routines Routines Routines Routines choice_routines block_routines item_routines else_routines z)

choice-case : (y : CaseGenerateItem-F AChoice ABlock AnItem AnElse) → Gives (choice_of (choice_in y)) (read_choice (choice_in y))
choice-case (CaseGenerateItem-F.Values es colon body) = behind-gives (exprs_tokens es) (block_tokens body.0) (block_routines body.0) body.1
choice-case (CaseGenerateItem-F.Default keyword colon body) = body.1

abbrev block_of : GenerateBlock-F CaseGenerateItem GenerateBlock Item GenerateElse → Tokens
block_of z = W.block_step (map-GenerateBlock CaseGenerateItem GenerateBlock Item GenerateElse Tokens Tokens Tokens Tokens choice_tokens block_tokens item_tokens else_tokens z)

abbrev read_block : GenerateBlock-F CaseGenerateItem GenerateBlock Item GenerateElse → Routines
read_block z = T.block_step (map-GenerateBlock CaseGenerateItem GenerateBlock Item GenerateElse Routines Routines Routines Routines choice_routines block_routines item_routines else_routines z)

block-case : (y : GenerateBlock-F AChoice ABlock AnItem AnElse) → Gives (block_of (block_in y)) (read_block (block_in y))
block-case (GenerateBlock-F.Block begin label items end end_label) = each-item items
block-case (GenerateBlock-F.Single item) = item.1

abbrev item_of : Item-F CaseGenerateItem GenerateBlock Item GenerateElse → Tokens
item_of z = W.item_step (map-Item CaseGenerateItem GenerateBlock Item GenerateElse Tokens Tokens Tokens Tokens choice_tokens block_tokens item_tokens else_tokens z)

abbrev read_item : Item-F CaseGenerateItem GenerateBlock Item GenerateElse → Routines
read_item z = T.item_step (map-Item CaseGenerateItem GenerateBlock Item GenerateElse Routines Routines Routines Routines choice_routines block_routines item_routines else_routines z)

item-case : (y : Item-F AChoice ABlock AnItem AnElse) → Gives (item_of (item_in y)) (read_item (item_in y))
item-case (Item-F.Parameters p) lo hi h a = tt
item-case (Item-F.Typedef t) lo hi h a = tt
item-case (Item-F.Import i) lo hi h a = tt
item-case (Item-F.Function f) lo hi h a = alone-gives (OfFunction f) lo hi h a
item-case (Item-F.Task t) lo hi h a = alone-gives (OfTask t) lo hi h a
item-case (Item-F.Data d) lo hi h a = tt
item-case (Item-F.Genvars g) lo hi h a = tt
item-case (Item-F.Assign x) lo hi h a = tt
item-case (Item-F.Always x) lo hi h a = tt
item-case (Item-F.Generate keyword items end) lo hi h a = each-item items lo hi h a
item-case (Item-F.LoopGenerate keyword opening control closing body) lo hi h a = behind-gives (generate_loop_tokens control) (block_tokens body.0) (block_routines body.0) body.1 lo hi h a
item-case (Item-F.IfGenerate keyword opening test closing body None) lo hi h a =
    behind-gives (expr_tokens test) (block_tokens body.0 ++ []) (block_routines body.0 ++ []) (both-give (block_tokens body.0) [] (block_routines body.0) [] body.1 (none-gives [])) lo hi h a
item-case (Item-F.IfGenerate keyword opening test closing body (Some e)) lo hi h a =
    behind-gives (expr_tokens test) (block_tokens body.0 ++ else_tokens e.0) (block_routines body.0 ++ else_routines e.0)
    (both-give (block_tokens body.0) (else_tokens e.0) (block_routines body.0) (else_routines e.0) body.1 e.1) lo hi h a
item-case (Item-F.CaseGenerate keyword opening sought closing items end) lo hi h a =
    behind-gives (expr_tokens sought) (in_row (map choice_tokens (choices_of items))) (T.joined (map choice_routines (choices_of items))) (each-choice items) lo hi h a
item-case (Item-F.Modports m) lo hi h a = tt
item-case (Item-F.Instances i) lo hi h a = tt
item-case (Item-F.Empty semicolon) lo hi h a = tt

choice-level : (y : CaseGenerateItem-F AChoice ABlock AnItem AnElse) → OfChoice (roll-CaseGenerateItem (choice_in y))
choice-level y lo hi h a =
    subst AllAscend (sym (fold-roll-CaseGenerateItem Routines Routines Routines Routines T.choice_step T.block_step T.item_step T.else_step (choice_in y)))
    (choice-case y lo hi h (as-tokens lo hi (sym (fold-roll-CaseGenerateItem Tokens Tokens Tokens Tokens W.choice_step W.block_step W.item_step W.else_step (choice_in y))) a))

block-level : (y : GenerateBlock-F AChoice ABlock AnItem AnElse) → OfBlock (roll-GenerateBlock (block_in y))
block-level y lo hi h a =
    subst AllAscend (sym (fold-roll-GenerateBlock Routines Routines Routines Routines T.choice_step T.block_step T.item_step T.else_step (block_in y)))
    (block-case y lo hi h (as-tokens lo hi (sym (fold-roll-GenerateBlock Tokens Tokens Tokens Tokens W.choice_step W.block_step W.item_step W.else_step (block_in y))) a))

item-level : (y : Item-F AChoice ABlock AnItem AnElse) → OfItem (roll-Item (item_in y))
item-level y lo hi h a =
    subst AllAscend (sym (fold-roll-Item Routines Routines Routines Routines T.choice_step T.block_step T.item_step T.else_step (item_in y)))
    (item-case y lo hi h (as-tokens lo hi (sym (fold-roll-Item Tokens Tokens Tokens Tokens W.choice_step W.block_step W.item_step W.else_step (item_in y))) a))

else-level : (y : GenerateElse-F AChoice ABlock AnItem AnElse) → OfElse (roll-GenerateElse (else_in y))
else-level y lo hi h a =
    subst AllAscend (sym (fold-roll-GenerateElse Routines Routines Routines Routines T.choice_step T.block_step T.item_step T.else_step (else_in y)))
    (y.body.1 lo hi h (as-tokens lo hi (sym (fold-roll-GenerateElse Tokens Tokens Tokens Tokens W.choice_step W.block_step W.item_step W.else_step (else_in y))) a))

item-gives : (x : Item) → OfItem x
item-gives =
    ind-Item OfChoice OfBlock OfItem OfElse (λ x y is. subst (λ z. OfChoice (roll-CaseGenerateItem z)) is (choice-level y)) (λ x y is. subst (λ z. OfBlock (roll-GenerateBlock z)) is (block-level y))
    (λ x y is. subst (λ z. OfItem (roll-Item z)) is (item-level y)) (λ x y is. subst (λ z. OfElse (roll-GenerateElse z)) is (else-level y))

-- packages, modules and units
package-gives : (x : PackageItem) → Gives (package_item_tokens x) (package_item x)
package-gives (P.Import i) lo hi h a = tt
package-gives (P.Typedef t) lo hi h a = tt
package-gives (P.Parameters p) lo hi h a = tt
package-gives (P.Function f) lo hi h a = alone-gives (OfFunction f) lo hi h a
package-gives (P.Task t) lo hi h a = alone-gives (OfTask t) lo hi h a
package-gives (P.Empty semicolon) lo hi h a = tt

module-gives : (m : Module) → Gives (module_tokens m) (module_routines m)
module-gives m =
    behind-gives (header_tokens m.header) (in_row (map item_tokens m.items)) (flat_map item_routines m.items) (flat-gives item_tokens item_routines item-gives m.items)

unit-gives : (x : Description) → Gives (unit_tokens x) (unit_routines x)
unit-gives (U.Package p) lo hi h a = flat-gives package_item_tokens package_item package-gives p.items lo hi h a
unit-gives (U.Module m) lo hi h a = module-gives m lo hi h a
unit-gives (U.Interface m) lo hi h a = module-gives m lo hi h a
unit-gives (U.Import i) lo hi h a = tt
unit-gives (U.Typedef t) lo hi h a = tt
unit-gives (U.Parameters p) lo hi h a = tt
unit-gives (U.Function f) lo hi h a = alone-gives (OfFunction f) lo hi h a
unit-gives (U.Task t) lo hi h a = alone-gives (OfTask t) lo hi h a
unit-gives (U.Empty semicolon) lo hi h a = tt

-- those of a tree, and the one whose name stands at a token
pub routines-ascend : (tree : SourceTree) (lo hi : ℕ) → lo ≤ hi → Ascend lo hi (tree_tokens tree) → AllAscend (routines tree)
unfolding routines
routines-ascend tree lo hi h a = flat-gives unit_tokens unit_routines unit-gives tree.units lo hi h a

found-here : (b : Bool) (r t : RoutineText) (other : Option RoutineText) → cond b (Some r) other ≡ Some t → (r ≡ t → Somewhere (routine_tokens t)) → (other ≡ Some t → Somewhere (routine_tokens t))
    → Somewhere (routine_tokens t)
found-here true r t other e here there = here (cc)
found-here false r t other e here there = there e

pub named-ascend : (at : ℕ) (rs : Routines) (t : RoutineText) → AllAscend rs → named_at at rs ≡ Some t → Somewhere (routine_tokens t)
named-ascend at [] t a e = absurd (cc)
named-ascend at (r ∷ rs) t a e = found-here (name_of r == at) r t (named_at at rs) e (λ is. subst (λ x. Somewhere (routine_tokens x)) is a.0) (named-ascend at rs t a.1)
