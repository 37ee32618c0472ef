-- Lists of functions and tasks, one more at a time.
use Rattle.std.proofs.Common.{rules, ◌≡◌, ℕ, ◌+◌, ◌<◌, Bool, true, false, nat_eq, if◌then◌else◌, cond, List, [], ◌∷◌, ◌++◌, length, drop, get_or, append_assoc, Option, Some, None, refl, sym, ap, ◌∙◌, arith}
use Rattle.std.specs.Prelude.{flat_map, map}
use Rattle.std.proofs.lemmas.List.{drop_more, drop_all}
use Rattle.sv_tree.specs.declared.expressions.Expr.{Expr}
use Rattle.sv_tree.specs.declared.names.Label.{Label}
use Rattle.sv_tree.specs.declared.items.CaseGenerateItem.{CaseGenerateItem, the_lemmas}
use Rattle.sv_tree.specs.declared.items.GenerateBlock.{GenerateBlock, GenerateBlock-F, fold-roll-GenerateBlock}
use Rattle.sv_tree.specs.declared.items.GenerateBlock.TheVariants as B
use Rattle.sv_tree.specs.declared.items.GenerateElse.{GenerateElse, fold-GenerateElse}
use Rattle.sv_tree.specs.declared.items.Item.{Item, Item-F, fold-roll-Item}
use Rattle.sv_tree.specs.declared.items.Item.TheVariants as I
use Rattle.expr_type.specs.Functions.{name_of}
use Rattle.expr_type.specs.Names.{RoutineText}
use Rattle.expr_type.specs.Routines.{named_at, joined, Routines, choice_step, block_step, item_step, else_step, item_routines}
use Rattle.source_routines.specs.Texts.{text_of, texts, put_routine, block_routines, choice_routines, else_routines}
use Rattle.source_routines.specs.declared.routine.Routine.{Routine}

-- what a row gives in one list
pub joined-map : {A : Type 0} (f : A → Routines) (xs : List A) → flat_map f xs ≡ joined (map f xs)
joined-map f [] = refl
joined-map f (x ∷ xs) = ap (λ ys. f x ++ ys) (joined-map f xs)

-- one more thing of a row: what it adds stands before what the rest adds
pub add-more : {A B : Type 0} (f : A → List B) (xs : List A) (k : ℕ) (d : A) (before after : List B) → k < length xs → d ≡ get_or xs k d → after ≡ before ++ f d
    → after ++ flat_map f (drop (k + 1) xs) ≡ before ++ flat_map f (drop k xs)
add-more f xs k d before after within is added =
    ap (λ ys. ys ++ flat_map f (drop (k + 1) xs)) added
    ∙ append_assoc before (f d) (flat_map f (drop (k + 1) xs))
    ∙ ap (λ ys. before ++ flat_map f ys) (sym (drop_more xs k d within ∙ ap (λ x. x ∷ drop (k + 1) xs) (sym is)))

-- one more routine before others
put-one : (r : RoutineText) (b : Bool) (o : Option RoutineText) → (if b then Some r else o) ≡ cond b (Some r) o
put-one r true o = refl
put-one r false o = refl

pub routine-put : (before after : ℕ → Option RoutineText) (rs : List Routine) (at k : ℕ) (d : Routine) (m : ℕ) → k + 1 ≡ at → k < length rs → d ≡ get_or rs k d → m ≡ name_of (text_of d)
    → after ≡ put_routine before m (text_of d) → ((q : ℕ) → before q ≡ named_at q (texts (drop at rs))) → (q : ℕ) → after q ≡ named_at q (texts (drop k rs))
routine-put before after rs at k d m next within is named put so_far q =
    let rest : drop k rs ≡ d ∷ drop (k + 1) rs = drop_more rs k d within ∙ ap (λ x. x ∷ drop (k + 1) rs) (sym is) in
    ap (λ (f : ℕ → Option RoutineText). f q) put
    ∙ ap (λ j. if nat_eq j q then Some (text_of d) else before q) named
    ∙ ap (λ o. if nat_eq (name_of (text_of d)) q then Some (text_of d) else o) (so_far q ∙ ap (λ j. named_at q (texts (drop j rs))) (sym next))
    ∙ put-one (text_of d) (nat_eq (name_of (text_of d)) q) (named_at q (texts (drop (k + 1) rs)))
    ∙ ap (λ xs. named_at q (texts xs)) (sym rest)

pub routine-none : (rs : List Routine) (q : ℕ) → None ≡ named_at q (texts (drop (length rs) rs))
routine-none rs q = ap (λ xs. named_at q (texts xs)) (sym (drop_all (length rs) rs (omega arith)))

-- what generate constructs give
pub at-block : (begin : ℕ) (label : Option Label) (items : List Item) (end : ℕ) (end_label : Option Label) → block_routines (B.Block begin label items end end_label) ≡ joined (map item_routines items)
at-block begin label items end end_label =
    ap block_routines (sym (B.rolls-Block begin label items end end_label))
    ∙ fold-roll-GenerateBlock Routines Routines Routines Routines choice_step block_step item_step else_step (GenerateBlock-F.Block begin label items end end_label)

pub at-generate : (keyword : ℕ) (items : List Item) (end : ℕ) → item_routines (I.Generate keyword items end) ≡ joined (map item_routines items)
at-generate keyword items end =
    ap item_routines (sym (I.rolls-Generate keyword items end))
    ∙ fold-roll-Item Routines Routines Routines Routines choice_step block_step item_step else_step (Item-F.Generate keyword items end)

pub at-case : (keyword opening : ℕ) (value : Expr) (closing : ℕ) (items : List CaseGenerateItem) (end : ℕ) → item_routines (I.CaseGenerate keyword opening value closing items end) ≡ joined (map choice_routines items)
at-case keyword opening value closing items end =
    ap item_routines (sym (I.rolls-CaseGenerate keyword opening value closing items end))
    ∙ fold-roll-Item Routines Routines Routines Routines choice_step block_step item_step else_step (Item-F.CaseGenerate keyword opening value closing items end)

else-level : (e : GenerateElse) → fold-GenerateElse Routines Routines Routines Routines choice_step block_step item_step else_step e ≡ block_routines e.body
else-level e = search (rules, the_lemmas)

pub at-if : (keyword opening : ℕ) (test : Expr) (closing : ℕ) (body : GenerateBlock) (other : Option GenerateElse) → item_routines (I.IfGenerate keyword opening test closing body other) ≡ block_routines body ++ else_routines other
at-if keyword opening test closing body None =
    ap item_routines (sym (I.rolls-IfGenerate keyword opening test closing body None))
    ∙ fold-roll-Item Routines Routines Routines Routines choice_step block_step item_step else_step (Item-F.IfGenerate keyword opening test closing body None)
at-if keyword opening test closing body (Some e) =
    ap item_routines (sym (I.rolls-IfGenerate keyword opening test closing body (Some e)))
    ∙ fold-roll-Item Routines Routines Routines Routines choice_step block_step item_step else_step (Item-F.IfGenerate keyword opening test closing body (Some e))
    ∙ ap (λ rs. block_routines body ++ rs) (else-level e)
