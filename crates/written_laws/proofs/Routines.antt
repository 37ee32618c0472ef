-- The functions and tasks of a written tree are written.
use Rattle.std.proofs.Common.{◌≡◌, ℕ, Bool, true, false, ◌&&◌, ◌==◌, cond, List, [], ◌∷◌, ◌++◌, map, Option, Some, None, refl, sym, ◌∙◌, subst}
use Rattle.std.specs.Prelude.{flat_map}
use Rattle.sv_tree.specs.declared.items.CaseGenerateItem.{CaseGenerateItem, CaseGenerateItem-F, fold-CaseGenerateItem, roll-CaseGenerateItem, map-CaseGenerateItem, fold-roll-CaseGenerateItem}
use Rattle.sv_tree.specs.declared.items.GenerateBlock.{GenerateBlock, GenerateBlock-F, fold-GenerateBlock, roll-GenerateBlock, map-GenerateBlock, fold-roll-GenerateBlock}
use Rattle.sv_tree.specs.declared.items.GenerateElse.{GenerateElse, GenerateElse-F, fold-GenerateElse, roll-GenerateElse, map-GenerateElse, fold-roll-GenerateElse}
use Rattle.sv_tree.specs.declared.items.Item.{Item, Item-F, roll-Item, map-Item, ind-Item, fold-roll-Item}
use Rattle.sv_tree.specs.declared.units.Module.{Module}
use Rattle.sv_tree.specs.declared.units.PackageItem.{PackageItem}
use Rattle.sv_tree.specs.declared.units.PackageItem.TheVariants as P
use Rattle.sv_tree.specs.declared.units.SourceTree.{SourceTree}
use Rattle.sv_tree.specs.declared.units.Unit.{Unit as Description}
use Rattle.sv_tree.specs.declared.units.Unit.TheVariants as U
use Rattle.expr_type.specs.Names.{RoutineText, OfFunction, OfTask}
use Rattle.expr_type.specs.Functions.{name_of}
use Rattle.expr_type.specs.Routines as T
use Rattle.expr_type.specs.Routines.{Routines, item_routines, module_routines, named_at, package_item, routines, unit_routines}
use Rattle.typing_walks.specs.Written.{all, is_written}
use Rattle.stmt_laws.specs.Written.{exprs_written}
use Rattle.written_laws.specs.Trees as W
use Rattle.written_laws.specs.Trees.{routine_written, generate_loop_written, choice_written, block_written, item_written, else_written, header_written, module_written, package_item_written, unit_written, tree_written}
use Rattle.written_laws.proofs.Tests.{both, left-of, right-of}
use Rattle.written_laws.proofs.Lists.{all-joined}

abbrev pub AllRead : Routines → Type 0
AllRead rs = all (map routine_written rs) ≡ true

pub both-read : (rs ss : Routines) → AllRead rs → AllRead ss → AllRead (rs ++ ss)
both-read rs ss v w = all-joined routine_written rs ss v w

alone-read : (r : RoutineText) → routine_written r ≡ true → AllRead (r ∷ [])
alone-read r w = both w refl

-- those of each part of a list
module _ {A : Type 0} (w : A → Bool) (f : A → Routines) (step : (x : A) → w x ≡ true → AllRead (f x)) where
  flat-read : (xs : List A) → all (map w xs) ≡ true → AllRead (flat_map f xs)
  flat-read [] e = refl
  flat-read (x ∷ xs) e = both-read (f x) (flat_map f xs) (step x (left-of (w x) (all (map w xs)) e)) (flat-read xs (right-of (w x) (all (map w xs)) e))

-- items of modules, and generate constructs
abbrev choice_routines : CaseGenerateItem → Routines
choice_routines = fold-CaseGenerateItem Routines Routines Routines Routines T.choice_step T.block_step T.item_step T.else_step

abbrev block_routines : GenerateBlock → Routines
block_routines = fold-GenerateBlock Routines Routines Routines Routines T.choice_step T.block_step T.item_step T.else_step

abbrev else_routines : GenerateElse → Routines
else_routines = fold-GenerateElse Routines Routines Routines Routines T.choice_step T.block_step T.item_step T.else_step

abbrev OfChoice : CaseGenerateItem → Type 0
OfChoice x = choice_written x ≡ true → AllRead (choice_routines x)

abbrev OfBlock : GenerateBlock → Type 0
OfBlock x = block_written x ≡ true → AllRead (block_routines x)

abbrev OfItem : Item → Type 0
OfItem x = item_written x ≡ true → AllRead (item_routines x)

abbrev OfElse : GenerateElse → Type 0
OfElse x = else_written x ≡ true → AllRead (else_routines x)

abbrev AChoice : Type 0
AChoice = (x : CaseGenerateItem) × OfChoice x

abbrev ABlock : Type 0
ABlock = (x : GenerateBlock) × OfBlock x

abbrev AnItem : Type 0
AnItem = (x : Item) × OfItem x

abbrev AnElse : Type 0
AnElse = (x : GenerateElse) × OfElse x

abbrev choice_in : CaseGenerateItem-F AChoice ABlock AnItem AnElse → CaseGenerateItem-F CaseGenerateItem GenerateBlock Item GenerateElse
choice_in = map-CaseGenerateItem AChoice ABlock AnItem AnElse CaseGenerateItem GenerateBlock Item GenerateElse (λ e. e.0) (λ e. e.0) (λ e. e.0) (λ e. e.0)

abbrev block_in : GenerateBlock-F AChoice ABlock AnItem AnElse → GenerateBlock-F CaseGenerateItem GenerateBlock Item GenerateElse
block_in = map-GenerateBlock AChoice ABlock AnItem AnElse CaseGenerateItem GenerateBlock Item GenerateElse (λ e. e.0) (λ e. e.0) (λ e. e.0) (λ e. e.0)

abbrev item_in : Item-F AChoice ABlock AnItem AnElse → Item-F CaseGenerateItem GenerateBlock Item GenerateElse
item_in = map-Item AChoice ABlock AnItem AnElse CaseGenerateItem GenerateBlock Item GenerateElse (λ e. e.0) (λ e. e.0) (λ e. e.0) (λ e. e.0)

abbrev else_in : GenerateElse-F AChoice ABlock AnItem AnElse → GenerateElse-F CaseGenerateItem GenerateBlock Item GenerateElse
else_in = map-GenerateElse AChoice ABlock AnItem AnElse CaseGenerateItem GenerateBlock Item GenerateElse (λ e. e.0) (λ e. e.0) (λ e. e.0) (λ e. e.0)

abbrev items_of : List AnItem → List Item
items_of ys = map (λ e. e.0) ys

abbrev choices_of : List AChoice → List CaseGenerateItem
choices_of ys = map (λ e. e.0) ys

each-item : (ys : List AnItem) → all (map item_written (items_of ys)) ≡ true → AllRead (T.joined (map item_routines (items_of ys)))
each-item [] w = refl
each-item (y ∷ ys) w =
    let rest = all (map item_written (items_of ys)) in
    both-read (item_routines y.0) (T.joined (map item_routines (items_of ys))) (y.1 (left-of (item_written y.0) rest w)) (each-item ys (right-of (item_written y.0) rest w))

each-choice : (ys : List AChoice) → all (map choice_written (choices_of ys)) ≡ true → AllRead (T.joined (map choice_routines (choices_of ys)))
each-choice [] w = refl
each-choice (y ∷ ys) w =
    let rest = all (map choice_written (choices_of ys)) in
    both-read (choice_routines y.0) (T.joined (map choice_routines (choices_of ys))) (y.1 (left-of (choice_written y.0) rest w)) (each-choice ys (right-of (choice_written y.0) rest w))

-- a level of an item
abbrev written_choice : CaseGenerateItem-F CaseGenerateItem GenerateBlock Item GenerateElse → Bool
written_choice z = W.choice_step (map-CaseGenerateItem CaseGenerateItem GenerateBlock Item GenerateElse Bool Bool Bool Bool choice_written block_written item_written else_written z)

abbrev read_choice : CaseGenerateItem-F CaseGenerateItem GenerateBlock Item GenerateElse → Routines
read_choice z = T.choice_step (map-CaseGenerateItem CaseGenerateItem GenerateBlock Item GenerateElse Routines Routines Routines Routines choice_routines block_routines item_routines else_routines z)

choice-case : (y : CaseGenerateItem-F AChoice ABlock AnItem AnElse) → written_choice (choice_in y) ≡ true → AllRead (read_choice (choice_in y))
choice-case (CaseGenerateItem-F.Values es colon body) w = body.1 (right-of (exprs_written es) (block_written body.0) w)
choice-case (CaseGenerateItem-F.Default keyword colon body) w = body.1 w

abbrev written_block : GenerateBlock-F CaseGenerateItem GenerateBlock Item GenerateElse → Bool
written_block z = W.block_step (map-GenerateBlock CaseGenerateItem GenerateBlock Item GenerateElse Bool Bool Bool Bool choice_written block_written item_written else_written z)

abbrev read_block : GenerateBlock-F CaseGenerateItem GenerateBlock Item GenerateElse → Routines
read_block z = T.block_step (map-GenerateBlock CaseGenerateItem GenerateBlock Item GenerateElse Routines Routines Routines Routines choice_routines block_routines item_routines else_routines z)

block-case : (y : GenerateBlock-F AChoice ABlock AnItem AnElse) → written_block (block_in y) ≡ true → AllRead (read_block (block_in y))
block-case (GenerateBlock-F.Block begin label items end end_label) w = each-item items w
block-case (GenerateBlock-F.Single item) w = item.1 w

abbrev written_item : Item-F CaseGenerateItem GenerateBlock Item GenerateElse → Bool
written_item z = W.item_step (map-Item CaseGenerateItem GenerateBlock Item GenerateElse Bool Bool Bool Bool choice_written block_written item_written else_written z)

abbrev read_item : Item-F CaseGenerateItem GenerateBlock Item GenerateElse → Routines
read_item z = T.item_step (map-Item CaseGenerateItem GenerateBlock Item GenerateElse Routines Routines Routines Routines choice_routines block_routines item_routines else_routines z)

item-case : (y : Item-F AChoice ABlock AnItem AnElse) → written_item (item_in y) ≡ true → AllRead (read_item (item_in y))
item-case (Item-F.Parameters p) w = refl
item-case (Item-F.Typedef t) w = refl
item-case (Item-F.Import i) w = refl
item-case (Item-F.Function f) w = alone-read (OfFunction f) w
item-case (Item-F.Task t) w = alone-read (OfTask t) w
item-case (Item-F.Data d) w = refl
item-case (Item-F.Genvars g) w = refl
item-case (Item-F.Assign a) w = refl
item-case (Item-F.Always a) w = refl
item-case (Item-F.Generate keyword items end) w = each-item items w
item-case (Item-F.LoopGenerate keyword opening control closing body) w = body.1 (right-of (generate_loop_written control) (block_written body.0) w)
item-case (Item-F.IfGenerate keyword opening test closing body None) w =
    let rest = right-of (is_written test) (block_written body.0 && true) w in
    both-read (block_routines body.0) [] (body.1 (left-of (block_written body.0) true rest)) refl
item-case (Item-F.IfGenerate keyword opening test closing body (Some e)) w =
    let rest = right-of (is_written test) (block_written body.0 && else_written e.0) w in
    both-read (block_routines body.0) (else_routines e.0) (body.1 (left-of (block_written body.0) (else_written e.0) rest)) (e.1 (right-of (block_written body.0) (else_written e.0) rest))
item-case (Item-F.CaseGenerate keyword opening sought closing items end) w = each-choice items (right-of (is_written sought) (all (map choice_written (choices_of items))) w)
item-case (Item-F.Modports m) w = refl
item-case (Item-F.Instances i) w = refl
item-case (Item-F.Empty semicolon) w = refl

choice-level : (y : CaseGenerateItem-F AChoice ABlock AnItem AnElse) → OfChoice (roll-CaseGenerateItem (choice_in y))
choice-level y w =
    subst AllRead (sym (fold-roll-CaseGenerateItem Routines Routines Routines Routines T.choice_step T.block_step T.item_step T.else_step (choice_in y)))
    (choice-case y (sym (fold-roll-CaseGenerateItem Bool Bool Bool Bool W.choice_step W.block_step W.item_step W.else_step (choice_in y)) ∙ w))

block-level : (y : GenerateBlock-F AChoice ABlock AnItem AnElse) → OfBlock (roll-GenerateBlock (block_in y))
block-level y w =
    subst AllRead (sym (fold-roll-GenerateBlock Routines Routines Routines Routines T.choice_step T.block_step T.item_step T.else_step (block_in y)))
    (block-case y (sym (fold-roll-GenerateBlock Bool Bool Bool Bool W.choice_step W.block_step W.item_step W.else_step (block_in y)) ∙ w))

item-level : (y : Item-F AChoice ABlock AnItem AnElse) → OfItem (roll-Item (item_in y))
item-level y w =
    subst AllRead (sym (fold-roll-Item Routines Routines Routines Routines T.choice_step T.block_step T.item_step T.else_step (item_in y)))
    (item-case y (sym (fold-roll-Item Bool Bool Bool Bool W.choice_step W.block_step W.item_step W.else_step (item_in y)) ∙ w))

else-level : (y : GenerateElse-F AChoice ABlock AnItem AnElse) → OfElse (roll-GenerateElse (else_in y))
else-level y w =
    subst AllRead (sym (fold-roll-GenerateElse Routines Routines Routines Routines T.choice_step T.block_step T.item_step T.else_step (else_in y)))
    (y.body.1 (sym (fold-roll-GenerateElse Bool Bool Bool Bool W.choice_step W.block_step W.item_step W.else_step (else_in y)) ∙ w))

item-read : (x : Item) → OfItem x
item-read =
    ind-Item OfChoice OfBlock OfItem OfElse (λ x y is. subst (λ z. OfChoice (roll-CaseGenerateItem z)) is (choice-level y)) (λ x y is. subst (λ z. OfBlock (roll-GenerateBlock z)) is (block-level y))
    (λ x y is. subst (λ z. OfItem (roll-Item z)) is (item-level y)) (λ x y is. subst (λ z. OfElse (roll-GenerateElse z)) is (else-level y))

-- packages, modules and units
package-read : (x : PackageItem) → package_item_written x ≡ true → AllRead (package_item x)
package-read (P.Import i) w = refl
package-read (P.Typedef t) w = refl
package-read (P.Parameters p) w = refl
package-read (P.Function f) w = alone-read (OfFunction f) w
package-read (P.Task t) w = alone-read (OfTask t) w
package-read (P.Empty semicolon) w = refl

module-read : (m : Module) → module_written m ≡ true → AllRead (module_routines m)
module-read m w = flat-read item_written item_routines item-read m.items (right-of (header_written m.header) (all (map item_written m.items)) w)

unit-read : (x : Description) → unit_written x ≡ true → AllRead (unit_routines x)
unit-read (U.Package p) w = flat-read package_item_written package_item package-read p.items w
unit-read (U.Module m) w = module-read m w
unit-read (U.Interface m) w = module-read m w
unit-read (U.Import i) w = refl
unit-read (U.Typedef t) w = refl
unit-read (U.Parameters p) w = refl
unit-read (U.Function f) w = alone-read (OfFunction f) w
unit-read (U.Task t) w = alone-read (OfTask t) w
unit-read (U.Empty semicolon) w = refl

-- those of a tree, and the one whose name stands at a token
pub routines-read : (tree : SourceTree) → tree_written tree ≡ true → AllRead (routines tree)
unfolding routines
routines-read tree w = flat-read unit_written unit_routines unit-read tree.units w

found-here : (b : Bool) (r t : RoutineText) (other : Option RoutineText) → cond b (Some r) other ≡ Some t → (r ≡ t → routine_written t ≡ true) → (other ≡ Some t → routine_written t ≡ true) → routine_written t ≡ true
found-here true r t other e here there = here (cc)
found-here false r t other e here there = there e

pub named-read : (at : ℕ) (rs : Routines) (t : RoutineText) → AllRead rs → named_at at rs ≡ Some t → routine_written t ≡ true
named-read at [] t w e = absurd (cc)
named-read at (r ∷ rs) t w e =
    found-here (name_of r == at) r t (named_at at rs) e (λ is. subst (λ x. routine_written x ≡ true) is (left-of (routine_written r) (all (map routine_written rs)) w))
    (named-read at rs t (right-of (routine_written r) (all (map routine_written rs)) w))
