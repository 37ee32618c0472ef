-- Two things in the order of the text, and items of a `case` that are made of them.
use Rattle.std.proofs.Common.{◌≡◌, ℕ, Bool, List, Option, Some, None, refl, sym, ap, ◌∙◌, subst}
use Rattle.std.specs.Prelude.{Result, Ok, Err, Vec}
use Rattle.std.specs.declared.alloc.Global.{Global}
use Rattle.sv_types.specs.declared.statement.Stmt.{Stmt}
use Rattle.expr_type.specs.declared.halt.Halt.{Halt}
use Rattle.expr_type.specs.declared.halt.Halt.TheVariants as H
use Rattle.expr_type.specs.declared.operand.Valued.{Valued}
use Rattle.expr_type.specs.Answers.{Break, Gives, HaltsBy, reason}
use Rattle.expr_type.specs.Statements as D
use Rattle.expr_type.specs.Typings.{Checked, joined, where_whole}
use Rattle.typing_steps.proofs.Combining.{joined-fine, joined-loud, joined-quiet, joined-quiet-fine}
use Rattle.expr_type.specs.Names.{Context, Source}
use Rattle.stmt_types.specs.Lists.{as_meant, listed}
use Rattle.stmt_types.specs.Cases.{found_by, joins}
use Rattle.stmt_types.proofs.Widening.{halts}

-- what is found gives what it means
pub found-gives : {A : Type 0} (k : Source) (r : Result A Halt) → Gives r (found_by k r)
found-gives k (Ok a) = refl
found-gives k (Err h) = halts k h

-- what both give
pub joins-gives : {A B : Type 0} (a : Result A Halt) (b : Result B Halt) (c : Checked A) (d : Checked B) → Gives a c → Gives b d → Gives (joins a b) (joined c d)
joins-gives {A = A} {B = B} (Ok a) (Ok b) c d p q = ap (λ (x : Checked A). joined x d) p ∙ ap (λ (y : Checked B). joined {A = A} (Ok a) y) q
joins-gives {A = A} (Ok a) (Err h) c d p q = subst (λ (x : Checked A). HaltsBy h (reason (joined x d))) (sym p) (subst (λ (r : Option (Option Break)). HaltsBy h r) (sym (joined-fine a d)) q)
joins-gives {B = B} (Err H.Quiet) (Ok b) c d p q = ap (λ (y : Checked B). reason (joined c y)) q ∙ joined-quiet-fine c b p
joins-gives (Err H.Quiet) (Err H.Memory) c d p q = tt
joins-gives (Err H.Quiet) (Err (H.Breaks at rule)) c d p q = joined-quiet c d (Some (record { at = at; rule = rule })) p q
joins-gives (Err H.Quiet) (Err H.Quiet) c d p q = joined-quiet c d None p q
joins-gives (Err H.Memory) b c d p q = tt
joins-gives (Err (H.Breaks at rule)) b c d p q = joined-loud c d (record { at = at; rule = rule }) p

-- what is made of both
pub where-fine : {A B : Type 0} (c : Checked A) (f : A → Checked B) (r : Result B Halt) (a : A) → Gives (Ok a) c → Gives r (f a) → Gives r (where_whole c f)
where-fine {A = A} c f r a p q = subst (λ (d : Checked A). Gives r (where_whole d f)) (sym p) q

pub where-stops : {A B : Type 0} (c : Checked A) (f : A → Checked B) (h : Halt) → Gives {A = A} (Err h) c → Gives {A = B} (Err h) (where_whole c f)
where-stops (Ok a) f H.Memory p = tt
where-stops (Ok a) f (H.Breaks at n) p = absurd (cc)
where-stops (Ok a) f H.Quiet p = absurd (cc)
where-stops (Err b) f h p = p

-- an item: its values and its statement
abbrev as_list : {A B : Type 0} → Vec A Global × B → List A × B
as_list p = (p.0.items, p.1)

listed-joins : {A B : Type 0} (a : Result (Vec A Global) Halt) (b : Result B Halt) → as_meant as_list (joins a b) ≡ joins (listed a) b
listed-joins (Ok v) (Ok b) = refl
listed-joins (Ok v) (Err h) = refl
listed-joins (Err H.Quiet) (Ok b) = refl
listed-joins (Err H.Quiet) (Err h) = refl
listed-joins (Err H.Memory) b = refl
listed-joins (Err (H.Breaks at rule)) b = refl

abbrev made_item : Bool → List Valued × Stmt → Checked D.CaseItem
made_item d p = Ok (record { is_default = d; values = p.0; body = p.1 })

abbrev part_item : Bool → Vec Valued Global × Stmt → D.CaseItem
part_item d p = record { is_default = d; values = p.0.items; body = p.1 }

item-by : (d : Bool) (c : Checked (List Valued × Stmt)) (r : Result (Vec Valued Global × Stmt) Halt) → Gives (as_meant as_list r) c → Gives (as_meant (part_item d) r) (where_whole c (made_item d))
item-by d c (Ok p) g = where-fine c (made_item d) (Ok (part_item d p)) (as_list p) g refl
item-by d c (Err h) g = where-stops c (made_item d) h g

pub item-gives : (k : Context) (w : ℕ) (d : Bool) (values at : Result (Vec Valued Global) Halt) (body : Result Stmt Halt) (r : Result (Vec Valued Global × Stmt) Halt)
    → Gives (listed at) (D.values_at k w (found_by k.source (listed values))) → r ≡ joins at body
    → Gives (as_meant (part_item d) r) (D.whole_item (D.item_at k w (record { is_default = d; values = found_by k.source (listed values); body = found_by k.source body })))
item-gives k w d values at body r g e =
    let vs = D.values_at k w (found_by k.source (listed values)) in
    let s = found_by k.source body in
    let both : Gives (joins (listed at) body) (joined vs s) = joins-gives (listed at) body vs s g (found-gives k.source body) in
    item-by d (joined vs s) r (subst (λ (x : Result (List Valued × Stmt) Halt). Gives x (joined vs s)) (sym (ap (as_meant as_list) e ∙ listed-joins at body)) both)

pub ruleset joinings = (item-gives)
