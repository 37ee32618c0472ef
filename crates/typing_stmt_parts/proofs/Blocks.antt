-- Blocks, as far as their items have been looked at.
use Rattle.std.proofs.Common.{◌≡◌, ◌<◌, ◌+◌, ℕ, List, [], ◌∷◌, ◌++◌, drop, length, get_or, map, Option, Some, None, refl, sym, ap, ◌∙◌, subst, append_assoc}
use Rattle.std.specs.Prelude.{Result, Ok, Err, Vec}
use Rattle.std.specs.declared.alloc.Global.{Global}
use Rattle.std.proofs.lemmas.List.{append-nil, drop_more}
use Rattle.sv_tree.specs.declared.statements.BlockItem.{BlockItem}
use Rattle.sv_types.specs.declared.statement.Function.{Function}
use Rattle.sv_types.specs.declared.statement.Stmt as R
use Rattle.sv_types.specs.declared.statement.Stmt.TheVariants as S
use Rattle.expr_type.specs.declared.halt.Halt.{Halt}
use Rattle.expr_type.specs.declared.halt.Halt.TheVariants as H
use Rattle.expr_type.specs.Breaks.{Breaks}
use Rattle.expr_type.specs.Names.{Context}
use Rattle.expr_type.specs.Statements as D
use Rattle.expr_type.specs.Statements.{behind_part, item_meaning}
use Rattle.expr_type.specs.Typings.{Checked, Typed, Typing, applied, whole}
use Rattle.stmt_types.specs.Blocks.{block_stmt, built_of, part_of}
use Rattle.stmt_types.specs.declared.blocks.BlockPart.{BlockPart}
use Rattle.stmt_types.proofs.Building.{built-is}
use Rattle.typing_calls.specs.Lists.{as_meant}
use Rattle.typing_scopes.specs.Ahead.{mapped}
use Rattle.typing_scopes.proofs.Turning.{ahead-alike, ahead-breaks, ahead-end, ahead-quiet, ahead-whole, behind-breaks, behind-end, behind-quiet, behind-whole}
use Rattle.typing_steps.specs.Steps.{StopsBy, TypesTo}
use Rattle.typing_steps.proofs.Combining.{checked-fine, checked-stops}
use Rattle.typing_stmt_parts.specs.declared.parts.Part.{Part}
use Rattle.typing_stmt_parts.specs.Parts.{AddsPart, BlockBy, Joins, part_meant}
use Rattle.typing_stmt_parts.specs.Blocks.{MadeOf, as_parts, made_row, put_behind, rest_of}

-- the items that are left
pub left-at : (xs : List BlockItem) (i : ℕ) (x : BlockItem) → i < length xs → x ≡ get_or xs i x → drop i xs ≡ x ∷ drop (i + 1) xs
left-at xs i x within is = drop_more xs i x within ∙ ap (λ (y : BlockItem). y ∷ drop (i + 1) xs) (sym is)

-- before the first item
block-starts : (v : Vec BlockPart Global) (k : Context) (items : List BlockItem) (fs : List Function) → v.items ≡ [] → MadeOf (Some v) k items (made_row k items fs) fs
block-starts v k items fs none r gs p = subst (λ (bs : List BlockPart). TypesTo (mapped (put_behind bs) r) (made_row k items fs) gs) (sym none) (by r p)
  where
    by : (r : Result (List D.BlockPart) Halt) → TypesTo r (rest_of k items fs) gs → TypesTo (mapped (put_behind []) r) (made_row k items fs) gs
    by (Ok qs) p = checked-fine (rest_of k items) (λ qs. whole (as_parts qs)) fs gs gs qs (Ok (as_parts qs)) p refl
    by (Err h) p = checked-stops (rest_of k items) (λ qs. whole (as_parts qs)) fs gs h p

at-text : (made : Option (Vec BlockPart Global)) (k j : Context) (xs : List BlockItem) (row : Typed (List BlockPart)) (gs : List Function) → j ≡ k → MadeOf made k xs row gs → MadeOf made j xs row gs
at-text made k j xs row gs e m = subst (λ (c : Context). MadeOf made c xs row gs) (sym e) m

pub block-begins : (v : Vec BlockPart Global) (k j : Context) (items : List BlockItem) (fs : List Function) → j ≡ k → v.items ≡ [] → MadeOf (Some v) j items (made_row k items fs) fs
block-begins v k j items fs same none = at-text (Some v) k j items (made_row k items fs) fs same (block-starts v k items fs none)

-- one item more
abbrev rest_behind : Context → List BlockItem → Option D.BlockPart → Typing (List D.BlockPart)
rest_behind k xs o = rest_of (behind_part k o) xs

abbrev cons : D.BlockPart → List D.BlockPart → List D.BlockPart
cons q qs = q ∷ qs

abbrev as_ok : Option (Vec BlockPart Global) → Result (Option (Vec BlockPart Global)) Halt
as_ok o = Ok o

ok-is : (o p : Option (Vec BlockPart Global)) → as_ok o ≡ Ok p → o ≡ p
ok-is o p e = cc

moved : (b : BlockPart) (as' bs : List BlockPart) (ws : List BlockPart) → ws ≡ as' ++ b ∷ [] → as' ++ (b ∷ bs) ≡ ws ++ bs
moved b as' bs ws e = sym (ap (λ (cs : List BlockPart). cs ++ bs) e ∙ append_assoc as' (b ∷ []) bs)

part-goes : (k : Context) (x : BlockItem) (xs : List BlockItem) (row : Typed (List BlockPart)) (fs gs : List Function) (made r : Option (Vec BlockPart Global)) (a : D.BlockPart) → AddsPart made (part_of a) (Ok r)
    → MadeOf made k (x ∷ xs) row fs → TypesTo (Ok a) (item_meaning x k fs) gs → MadeOf r (behind_part k (Some a)) xs row gs
part-goes k x xs row fs gs (Some v) (Some w) a added m p =
    ahead-alike (λ (qs : List D.BlockPart). put_behind v.items (a ∷ qs)) (put_behind w.items) (rest_behind k xs (Some a)) row gs (λ qs. moved (part_of a) v.items (as_parts qs) w.items added)
    (ahead-whole (item_meaning x k) (rest_behind k xs) cons (put_behind v.items) row fs gs a m p)
part-goes k x xs row fs gs (Some v) None a added m p = absurd added
part-goes k x xs row fs gs None r a added m p =
    subst (λ (o : Option (Vec BlockPart Global)). MadeOf o (behind_part k (Some a)) xs row gs) (sym (ok-is r None added)) (behind-whole (item_meaning x k) (rest_behind k xs) cons row fs gs a m p)

part-quiet : (k : Context) (x : BlockItem) (xs : List BlockItem) (row : Typed (List BlockPart)) (fs gs : List Function) (made : Option (Vec BlockPart Global)) → MadeOf made k (x ∷ xs) row fs
    → TypesTo {A = D.BlockPart} (Err H.Quiet) (item_meaning x k fs) gs → MadeOf None k xs row gs
part-quiet k x xs row fs gs (Some v) m p = ahead-quiet (item_meaning x k) (rest_behind k xs) cons (put_behind v.items) row fs gs m p
part-quiet k x xs row fs gs None m p = behind-quiet (item_meaning x k) (rest_behind k xs) cons row fs gs m p

part-breaks : (k : Context) (x : BlockItem) (xs : List BlockItem) (row : Typed (List BlockPart)) (fs gs hs : List Function) (made : Option (Vec BlockPart Global)) (at n : ℕ) → MadeOf made k (x ∷ xs) row fs
    → TypesTo {A = D.BlockPart} (Err (H.Breaks at n)) (item_meaning x k fs) gs → StopsBy (H.Breaks at n) row hs
part-breaks k x xs row fs gs hs (Some v) at n m p = ahead-breaks (item_meaning x k) (rest_behind k xs) cons (put_behind v.items) row fs gs at n m p hs
part-breaks k x xs row fs gs hs None at n m p = behind-breaks (item_meaning x k) (rest_behind k xs) cons row fs gs at n m p hs

pub joined-goes : (k j : Context) (x : BlockItem) (xs : List BlockItem) (row : Typed (List BlockPart)) (fs gs : List Function) (made r : Option (Vec BlockPart Global)) (part : Result Part Halt) → Joins made k j part (Ok r)
    → MadeOf made k (x ∷ xs) row fs → TypesTo (as_meant part_meant part) (item_meaning x k fs) gs → MadeOf r j xs row gs
joined-goes k j x xs row fs gs made r (Ok p) s m t = at-text r (behind_part k (Some (part_meant p))) j xs row gs s.0 (part-goes k x xs row fs gs made r (part_meant p) s.1 m t)
joined-goes k j x xs row fs gs made r (Err H.Quiet) s m t =
    at-text r k j xs row gs s.0 (subst (λ (o : Option (Vec BlockPart Global)). MadeOf o k xs row gs) (sym (ok-is r None s.1)) (part-quiet k x xs row fs gs made m t))
joined-goes k j x xs row fs gs made r (Err H.Memory) s m t = absurd (cc)
joined-goes k j x xs row fs gs made r (Err (H.Breaks at n)) s m t = absurd (cc)

abbrev as_err : Halt → Result (Option (Vec BlockPart Global)) Halt
as_err h = Err h

err-is : (g h : Halt) → as_err g ≡ Err h → h ≡ g
err-is g h e = cc

lacks : (h : Halt) (row : Typed (List BlockPart)) (hs : List Function) → h ≡ H.Memory → TypesTo {A = List BlockPart} (Err h) row hs
lacks h row hs e = subst (λ (g : Halt). TypesTo {A = List BlockPart} (Err g) row hs) (sym e) tt

pub joined-stops : (k j : Context) (x : BlockItem) (xs : List BlockItem) (row : Typed (List BlockPart)) (fs gs hs : List Function) (made : Option (Vec BlockPart Global)) (part : Result Part Halt) (h : Halt) → Joins made k j part (Err h)
    → MadeOf made k (x ∷ xs) row fs → TypesTo (as_meant part_meant part) (item_meaning x k fs) gs → TypesTo {A = List BlockPart} (Err h) row hs
joined-stops k j x xs row fs gs hs made (Ok p) h s m t = lacks h row hs s
joined-stops k j x xs row fs gs hs made (Err H.Quiet) h s m t = let e = s.1 in absurd (cc)
joined-stops k j x xs row fs gs hs made (Err H.Memory) h s m t = lacks h row hs (sym (err-is h H.Memory s))
joined-stops k j x xs row fs gs hs made (Err (H.Breaks at n)) h s m t =
    subst (λ (g : Halt). TypesTo {A = List BlockPart} (Err g) row hs) (err-is h (H.Breaks at n) s) (part-breaks k x xs row fs gs hs made at n m t)

-- the block of what is made of all items
abbrev as_block : List D.BlockPart → Typing R.Stmt
as_block qs = let b = D.built qs in whole (S.Block b.locals b.body)

abbrev as_made : List D.BlockPart → Typing (List BlockPart)
as_made qs = whole (as_parts qs)

made-block : (t : Checked (List D.BlockPart)) (js gs : List Function) (bs : List BlockPart) → TypesTo (Ok bs) (applied t as_made js) gs → TypesTo (Ok (block_stmt (built_of bs))) (applied t as_block js) gs
made-block (Ok qs) js gs bs p =
    let same : as_parts qs ≡ bs = made-are (as_parts qs) bs js gs p in
    let known : js ≡ gs = ap (λ (u : Typed (List BlockPart)). u.functions) p in
    subst (λ (hs : List Function). TypesTo (Ok (block_stmt (built_of bs))) (as_block qs js) hs) known
    (subst (λ (b : D.Block). TypesTo (Ok (block_stmt b)) (as_block qs js) js) (built-is qs ∙ ap built_of same) refl)
  where
    as_made_ok : List BlockPart → Checked (List BlockPart)
    as_made_ok cs = Ok cs

    made-are : (as' bs : List BlockPart) (js gs : List Function) → TypesTo (Ok bs) (whole as' js) gs → as' ≡ bs
    made-are as' bs js gs p = let e : as_made_ok as' ≡ Ok bs = ap (λ (u : Typed (List BlockPart)). u.result) p in cc
made-block (Err b) js gs bs p = let e : as_broken b ≡ Ok bs = ap (λ (u : Typed (List BlockPart)). u.result) p in absurd (cc)
  where
    as_broken : Breaks → Checked (List BlockPart)
    as_broken x = Err x

stopped-block : (t : Checked (List D.BlockPart)) (js gs : List Function) (h : Halt) → StopsBy h (applied t as_made js) gs → StopsBy h (applied t as_block js) gs
stopped-block t js gs H.Memory p = tt
stopped-block (Ok qs) js gs (H.Breaks at n) p = absurd (cc)
stopped-block (Err b) js gs (H.Breaks at n) p = p
stopped-block (Ok qs) js gs H.Quiet p = let q = p.quiet in absurd (cc)
stopped-block (Err b) js gs H.Quiet p = record { quiet = p.quiet; functions = p.functions }

pub row-stops : (k : Context) (items : List BlockItem) (fs gs : List Function) (h : Halt) → TypesTo {A = List BlockPart} (Err h) (made_row k items fs) gs → TypesTo {A = R.Stmt} (Err h) (D.block k (map item_meaning items) fs) gs
row-stops k items fs gs h p = let t = rest_of k items fs in stopped-block t.result t.functions gs h p

row-fine : (k : Context) (items : List BlockItem) (fs gs : List Function) (bs : List BlockPart) → TypesTo (Ok bs) (made_row k items fs) gs → TypesTo (Ok (block_stmt (built_of bs))) (D.block k (map item_meaning items) fs) gs
row-fine k items fs gs bs p = let t = rest_of k items fs in made-block t.result t.functions gs bs p

no-memory : (h : Halt) (t : Typed R.Stmt) (gs : List Function) → h ≡ H.Memory → TypesTo {A = R.Stmt} (Err h) t gs
no-memory h t gs e = subst (λ (g : Halt). TypesTo {A = R.Stmt} (Err g) t gs) (sym e) tt

pub block-ends : (k j : Context) (items : List BlockItem) (fs gs : List Function) (made : Option (Vec BlockPart Global)) (r : Result R.Stmt Halt) → BlockBy made r → MadeOf made j [] (made_row k items fs) gs
    → TypesTo r (D.block k (map item_meaning items) fs) gs
block-ends k j items fs gs (Some v) (Ok s) b m =
    let all : TypesTo (Ok v.items) (made_row k items fs) gs = subst (λ (bs : List BlockPart). TypesTo (Ok bs) (made_row k items fs) gs) (append-nil v.items) (ahead-end [] (put_behind v.items) (made_row k items fs) gs m) in
    subst (λ (u : R.Stmt). TypesTo (Ok u) (D.block k (map item_meaning items) fs) gs) (sym b) (row-fine k items fs gs v.items all)
block-ends k j items fs gs (Some v) (Err h) b m = no-memory h (D.block k (map item_meaning items) fs) gs b
block-ends k j items fs gs None r b m =
    subst (λ (u : Result R.Stmt Halt). TypesTo u (D.block k (map item_meaning items) fs) gs) (sym b) (row-stops k items fs gs H.Quiet (behind-end [] (made_row k items fs) gs m))
