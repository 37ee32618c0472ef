-- The turns of a walk over steps in a row: what has been looked at, and one step more.
use Rattle.std.proofs.Common.{List, [], ◌∷◌, ◌++◌, ℕ, refl}
use Rattle.std.specs.Prelude.{Ok, Err}
use Rattle.sv_types.specs.declared.statement.Function.{Function}
use Rattle.expr_type.specs.declared.halt.Halt.{Halt}
use Rattle.expr_type.specs.declared.halt.Halt.TheVariants as H
use Rattle.expr_type.specs.Typings.{Typing, checked, beside, all, whole}
use Rattle.typing_steps.specs.Steps.{TypesTo}
use Rattle.typing_steps.proofs.Combining.{beside-fine, beside-breaks, beside-second, beside-quiet, beside-behind-quiet, checked-fine, checked-stops}
use Rattle.typing_steps.proofs.Lists.{alike-types, all-append, all-more}

abbrev put_together : {A : Type 0} → List A × List A → Typing (List A)
put_together p = whole (p.0 ++ p.1)

abbrev put_first : {A : Type 0} → A × List A → Typing (List A)
put_first p = whole (p.0 ∷ p.1)

-- one step by itself
one-fine : {A : Type 0} (x : Typing A) (gs hs : List Function) (a : A) → TypesTo (Ok a) (x gs) hs → TypesTo (Ok (a ∷ [])) (all (x ∷ []) gs) hs
one-fine x gs hs a q = checked-fine (beside x (all [])) put_first gs hs hs (a, []) (Ok (a ∷ [])) (beside-fine x (all []) gs hs hs a [] q refl) refl

one-beside : {A : Type 0} (h : Halt) (x : Typing A) (gs hs : List Function) → TypesTo {A = A} (Err h) (x gs) hs → TypesTo {A = A × List A} (Err h) (beside x (all []) gs) hs
one-beside H.Memory x gs hs q = tt
one-beside (H.Breaks at n) x gs hs q = beside-breaks x (all []) gs hs hs at n q
one-beside H.Quiet x gs hs q = beside-quiet x (all []) gs hs hs [] q refl

one-stops : {A : Type 0} (h : Halt) (x : Typing A) (gs hs : List Function) → TypesTo {A = A} (Err h) (x gs) hs → TypesTo {A = List A} (Err h) (all (x ∷ []) gs) hs
one-stops h x gs hs q = checked-stops (beside x (all [])) put_first gs hs h (one-beside h x gs hs q)

-- behind steps that are whole
pub next-fine : {A : Type 0} (xs : List (Typing A)) (x : Typing A) (fs gs hs : List Function) (as' : List A) (a : A) → TypesTo (Ok as') (all xs fs) gs → TypesTo (Ok a) (x gs) hs
    → TypesTo (Ok (as' ++ a ∷ [])) (all (xs ++ x ∷ []) fs) hs
next-fine xs x fs gs hs as' a p q =
    all-more xs x fs hs (Ok (as' ++ a ∷ []))
    (checked-fine (beside (all xs) (all (x ∷ []))) put_together fs hs hs (as', a ∷ []) (Ok (as' ++ a ∷ []))
    (beside-fine (all xs) (all (x ∷ [])) fs gs hs as' (a ∷ []) p (one-fine x gs hs a q)) refl)

pub next-stops : {A : Type 0} (xs : List (Typing A)) (x : Typing A) (fs gs hs : List Function) (as' : List A) (h : Halt) → TypesTo (Ok as') (all xs fs) gs → TypesTo {A = A} (Err h) (x gs) hs
    → TypesTo {A = List A} (Err h) (all (xs ++ x ∷ []) fs) hs
next-stops xs x fs gs hs as' h p q =
    all-more xs x fs hs (Err h)
    (checked-stops (beside (all xs) (all (x ∷ []))) put_together fs hs h (beside-second (all xs) (all (x ∷ [])) fs gs hs as' h p (one-stops h x gs hs q)))

-- behind steps that break nothing and aren't whole
pub quiet-fine : {A : Type 0} (xs : List (Typing A)) (x : Typing A) (fs gs hs : List Function) (a : A) → TypesTo {A = List A} (Err H.Quiet) (all xs fs) gs → TypesTo (Ok a) (x gs) hs
    → TypesTo {A = List A} (Err H.Quiet) (all (xs ++ x ∷ []) fs) hs
quiet-fine xs x fs gs hs a p q =
    all-more xs x fs hs (Err H.Quiet)
    (checked-stops (beside (all xs) (all (x ∷ []))) put_together fs hs H.Quiet (beside-quiet (all xs) (all (x ∷ [])) fs gs hs (a ∷ []) p (one-fine x gs hs a q)))

pub quiet-stops : {A : Type 0} (xs : List (Typing A)) (x : Typing A) (fs gs hs : List Function) (h : Halt) → TypesTo {A = List A} (Err H.Quiet) (all xs fs) gs → TypesTo {A = A} (Err h) (x gs) hs
    → TypesTo {A = List A} (Err h) (all (xs ++ x ∷ []) fs) hs
quiet-stops xs x fs gs hs h p q =
    all-more xs x fs hs (Err h)
    (checked-stops (beside (all xs) (all (x ∷ []))) put_together fs hs h (beside-behind-quiet (all xs) (all (x ∷ [])) fs gs hs h p (one-stops h x gs hs q)))

-- a break counts whatever stands behind it
pub breaks-on : {A : Type 0} (xs ys : List (Typing A)) (fs gs hs : List Function) (at n : ℕ) → TypesTo {A = List A} (Err (H.Breaks at n)) (all xs fs) gs
    → TypesTo {A = List A} (Err (H.Breaks at n)) (all (xs ++ ys) fs) hs
breaks-on xs ys fs gs hs at n p =
    alike-types (Err (H.Breaks at n)) (checked (beside (all xs) (all ys)) put_together fs) (all (xs ++ ys) fs) hs (all-append xs ys fs)
    (checked-stops (beside (all xs) (all ys)) put_together fs hs (H.Breaks at n) (beside-breaks (all xs) (all ys) fs gs hs at n p))

pub ruleset turns = (next-fine, next-stops, quiet-fine, quiet-stops, breaks-on)
