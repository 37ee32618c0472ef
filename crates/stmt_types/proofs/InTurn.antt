-- Things in a row as steps of typing.
use Rattle.std.proofs.Common.{◌≡◌, List, [], ◌∷◌, ◌++◌, map, refl, sym, ap, ◌∙◌, subst}
use Rattle.std.specs.Prelude.{Result, Ok, Err, Vec}
use Rattle.std.specs.declared.alloc.Global.{Global}
use Rattle.std.proofs.lemmas.List.{map-append, map-id}
use Rattle.sv_types.specs.declared.statement.Function.{Function}
use Rattle.expr_type.specs.declared.halt.Halt.{Halt}
use Rattle.expr_type.specs.declared.halt.Halt.TheVariants as H
use Rattle.expr_type.specs.Answers.{Gives}
use Rattle.expr_type.specs.Typings.{Checked, Typed, Typing, all, all_of, rule}
use Rattle.typing_steps.specs.Steps.{TypesTo}
use Rattle.typing_steps.proofs.Combining.{rule-types}
use Rattle.typing_steps.proofs.Rules.{gives-all, rules-are}
use Rattle.typing_steps.proofs.Turns.{breaks-on, next-fine, next-stops, quiet-fine, quiet-stops}
use Rattle.stmt_types.specs.Lists.{Follows, all_meant, as_meant, listed}

-- one more step
pub follow-types : {A B : Type 0} (f : A → B) (xs : List (Typing B)) (x : Typing B) (fs gs hs : List Function) (made : Result (Vec A Global) Halt) (next : Result A Halt) (r : Result (Vec A Global) Halt)
    → Follows made next r → TypesTo (all_meant f made) (all xs fs) gs → TypesTo (as_meant f next) (x gs) hs → TypesTo (all_meant f r) (all (xs ++ x ∷ []) fs) hs
follow-types {B = B} f xs x fs gs hs (Ok v) (Ok a) (Ok w) s p q =
    subst (λ (bs : List B). TypesTo (Ok bs) (all (xs ++ x ∷ []) fs) hs) (sym (ap (map f) s ∙ map-append f v.items (a ∷ []))) (next-fine xs x fs gs hs (map f v.items) (f a) p q)
follow-types {B = B} f xs x fs gs hs (Ok v) (Ok a) (Err h) s p q = subst (λ g. TypesTo {A = List B} (Err g) (all (xs ++ x ∷ []) fs) hs) (sym s) tt
follow-types {A = A} f xs x fs gs hs (Ok v) (Err h) r s p q =
    subst (λ (t : Result (Vec A Global) Halt). TypesTo (all_meant f t) (all (xs ++ x ∷ []) fs) hs) (sym s) (next-stops xs x fs gs hs (map f v.items) h p q)
follow-types {A = A} f xs x fs gs hs (Err H.Quiet) (Ok a) r s p q =
    subst (λ (t : Result (Vec A Global) Halt). TypesTo (all_meant f t) (all (xs ++ x ∷ []) fs) hs) (sym s) (quiet-fine xs x fs gs hs (f a) p q)
follow-types {A = A} f xs x fs gs hs (Err H.Quiet) (Err h) r s p q =
    subst (λ (t : Result (Vec A Global) Halt). TypesTo (all_meant f t) (all (xs ++ x ∷ []) fs) hs) (sym s) (quiet-stops xs x fs gs hs h p q)
follow-types {A = A} f xs x fs gs hs (Err H.Memory) next r s p q =
    subst (λ (t : Result (Vec A Global) Halt). TypesTo (all_meant f t) (all (xs ++ x ∷ []) fs) hs) (sym s) tt
follow-types {A = A} f xs x fs gs hs (Err (H.Breaks at n)) next r s p q =
    subst (λ (t : Result (Vec A Global) Halt). TypesTo (all_meant f t) (all (xs ++ x ∷ []) fs) hs) (sym s) (breaks-on xs (x ∷ []) fs gs hs at n p)

-- one more rule
pub follow-gives : {A B : Type 0} (f : A → B) (cs : List (Checked B)) (c : Checked B) (made : Result (Vec A Global) Halt) (next : Result A Halt) (r : Result (Vec A Global) Halt)
    → Follows made next r → Gives (all_meant f made) (all_of cs) → Gives (as_meant f next) c → Gives (all_meant f r) (all_of (cs ++ c ∷ []))
follow-gives {B = B} f cs c made next r s p q =
    gives-all (all_meant f r) (cs ++ c ∷ []) []
    (subst (λ (xs : List (Typing B)). TypesTo (all_meant f r) (all xs []) []) (sym (map-append rule cs (c ∷ [])))
    (follow-types f (map rule cs) (rule c) [] [] [] made next r s
    (subst (λ (t : Typed (List B)). TypesTo (all_meant f made) t []) (sym (rules-are cs [])) (rule-types (all_meant f made) (all_of cs) [] p))
    (rule-types (as_meant f next) c [] q)))

-- one more rule, of things as they are
itself : {A : Type 0} (r : Result A Halt) → as_meant (λ (a : A). a) r ≡ r
itself (Ok a) = refl
itself (Err h) = refl

all-themselves : {A : Type 0} (r : Result (Vec A Global) Halt) → all_meant (λ (a : A). a) r ≡ listed r
all-themselves {A = A} (Ok v) = ap ok (map-id v.items)
  where
    ok : List A → Result (List A) Halt
    ok as' = Ok as'
all-themselves (Err h) = refl

pub follow-listed : {A : Type 0} (cs : List (Checked A)) (c : Checked A) (made : Result (Vec A Global) Halt) (next : Result A Halt) (r : Result (Vec A Global) Halt)
    → Follows made next r → Gives (listed made) (all_of cs) → Gives next c → Gives (listed r) (all_of (cs ++ c ∷ []))
follow-listed {A = A} cs c made next r s p q =
    subst (λ (t : Result (List A) Halt). Gives t (all_of (cs ++ c ∷ []))) (all-themselves r)
    (follow-gives (λ (a : A). a) cs c made next r s (subst (λ (t : Result (List A) Halt). Gives t (all_of cs)) (sym (all-themselves made)) p)
    (subst (λ (t : Result A Halt). Gives t c) (sym (itself next)) q))
