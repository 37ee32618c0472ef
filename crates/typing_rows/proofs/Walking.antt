-- The turns of a walk over parts in a row.
use Rattle.std.proofs.Common.{◌≡◌, ◌<◌, ◌≤◌, ◌+◌, ℕ, Bool, true, false, List, [], ◌∷◌, ◌++◌, map, take, drop, length, get_or, refl, sym, ap, ◌∙◌, subst}
use Rattle.std.specs.Prelude.{Result, Ok, Err}
use Rattle.std.proofs.lemmas.List.{take_more, take_all, take-append-drop, map-append}
use Rattle.sv_types.specs.declared.statement.Function.{Function}
use Rattle.expr_type.specs.declared.halt.Halt.{Halt}
use Rattle.expr_type.specs.declared.halt.Halt.TheVariants as H
use Rattle.expr_type.specs.Typings.{Typing, all}
use Rattle.typing_steps.specs.Steps.{TypesTo}
use Rattle.typing_steps.proofs.Turns.{next-fine, next-stops, quiet-fine, quiet-stops, breaks-on}
use Rattle.typing_rows.specs.Rows.{Adds, mapped, so_far}

-- nothing is looked at yet
pub none-yet : {E A : Type 0} (step : E → Typing A) (es : List E) (fs : List Function) → TypesTo (so_far {A = A} true []) (all (map step (take 0 es)) fs) fs
none-yet step es fs = refl

-- one more is whole
fine-by : {A : Type 0} (w : Bool) (old : List A) (xs : List (Typing A)) (x : Typing A) (fs gs hs : List Function) (a : A)
    → TypesTo (so_far w old) (all xs fs) gs → TypesTo (Ok a) (x gs) hs → TypesTo (so_far w (old ++ a ∷ [])) (all (xs ++ x ∷ []) fs) hs
fine-by true old xs x fs gs hs a p q = next-fine xs x fs gs hs old a p q
fine-by false old xs x fs gs hs a p q = quiet-fine xs x fs gs hs a p q

-- one more isn't
stops-by : {A : Type 0} (w : Bool) (old : List A) (xs : List (Typing A)) (x : Typing A) (fs gs hs : List Function) (h : Halt)
    → TypesTo (so_far w old) (all xs fs) gs → TypesTo {A = A} (Err h) (x gs) hs → TypesTo {A = List A} (Err h) (all (xs ++ x ∷ []) fs) hs
stops-by true old xs x fs gs hs h p q = next-stops xs x fs gs hs old h p q
stops-by false old xs x fs gs hs h p q = quiet-stops xs x fs gs hs h p q

added : {A : Type 0} (w v : Bool) (old new : List A) (one : Result A Halt) (xs : List (Typing A)) (x : Typing A) (fs gs hs : List Function)
    → Adds old w one (Ok v) new → TypesTo (so_far w old) (all xs fs) gs → TypesTo one (x gs) hs → TypesTo (so_far v new) (all (xs ++ x ∷ []) fs) hs
added {A = A} w v old new (Ok a) xs x fs gs hs d p q =
    subst (λ (ys : List A). TypesTo (so_far v ys) (all (xs ++ x ∷ []) fs) hs) (sym d.added)
    (subst (λ (u : Bool). TypesTo (so_far u (old ++ a ∷ [])) (all (xs ++ x ∷ []) fs) hs) (sym d.whole_still) (fine-by w old xs x fs gs hs a p q))
added {A = A} w v old new (Err h) xs x fs gs hs d p q =
    subst (λ (u : Bool). TypesTo (so_far u new) (all (xs ++ x ∷ []) fs) hs) (sym d.whole_no_more)
    (stops-by w old xs x fs gs hs H.Quiet p (subst (λ (g : Halt). TypesTo {A = A} (Err g) (x gs) hs) d.quiet q))

ended-by : {A : Type 0} (h : Halt) (xs ys : List (Typing A)) (fs gs hs : List Function) → (h ≡ H.Quiet → ⊥)
    → TypesTo {A = List A} (Err h) (all xs fs) gs → TypesTo {A = List A} (Err h) (all (xs ++ ys) fs) hs
ended-by H.Memory xs ys fs gs hs loud p = tt
ended-by (H.Breaks at n) xs ys fs gs hs loud p = breaks-on xs ys fs gs hs at n p
ended-by H.Quiet xs ys fs gs hs loud p = absurd (loud refl)

ended : {A : Type 0} (w : Bool) (old new : List A) (one : Result A Halt) (g : Halt) (xs ys : List (Typing A)) (x : Typing A) (fs gs hs js : List Function)
    → Adds old w one (Err g) new → TypesTo (so_far w old) (all xs fs) gs → TypesTo one (x gs) hs → TypesTo {A = List A} (Err g) (all ((xs ++ x ∷ []) ++ ys) fs) js
ended {A = A} w old new (Ok a) g xs ys x fs gs hs js d p q = subst (λ (h : Halt). TypesTo {A = List A} (Err h) (all ((xs ++ x ∷ []) ++ ys) fs) js) (sym d) tt
ended {A = A} w old new (Err h) g xs ys x fs gs hs js d p q =
    subst (λ (k : Halt). TypesTo {A = List A} (Err k) (all ((xs ++ x ∷ []) ++ ys) fs) js) (sym d.same)
    (ended-by h (xs ++ x ∷ []) ys fs hs js d.loud (stops-by w old xs x fs gs hs h p q))

-- the parts of a list in turn
map-more : {E B : Type 0} (step : E → B) (es : List E) (i : ℕ) (e : E) → i < length es → e ≡ get_or es i e → map step (take (i + 1) es) ≡ map step (take i es) ++ step e ∷ []
map-more {E = E} step es i e within is =
    ap (map step) (take_more es i e within) ∙ map-append step (take i es) (get_or es i e ∷ []) ∙ ap (λ (x : E). map step (take i es) ++ step x ∷ []) (sym is)

pub turn : {E A : Type 0} (step : E → Typing A) (es : List E) (i : ℕ) (e : E) (w v : Bool) (old new : List A) (one : Result A Halt) (fs gs hs : List Function)
    → i < length es → e ≡ get_or es i e → Adds old w one (Ok v) new → TypesTo (so_far w old) (all (map step (take i es)) fs) gs → TypesTo one (step e gs) hs
    → TypesTo (so_far v new) (all (map step (take (i + 1) es)) fs) hs
turn {A = A} step es i e w v old new one fs gs hs within is d p q =
    subst (λ (xs : List (Typing A)). TypesTo (so_far v new) (all xs fs) hs) (sym (map-more step es i e within is))
    (added w v old new one (map step (take i es)) (step e) fs gs hs d p q)

-- the walk ends in the middle
pub turn-ends : {E A : Type 0} (step : E → Typing A) (es : List E) (i : ℕ) (e : E) (w : Bool) (old new : List A) (one : Result A Halt) (g : Halt) (fs gs hs js : List Function)
    → i < length es → e ≡ get_or es i e → Adds old w one (Err g) new → TypesTo (so_far w old) (all (map step (take i es)) fs) gs → TypesTo one (step e gs) hs
    → TypesTo {A = List A} (Err g) (all (map step es) fs) js
turn-ends {E = E} {A = A} step es i e w old new one g fs gs hs js within is d p q =
    let whole_row : map step es ≡ (map step (take i es) ++ step e ∷ []) ++ map step (drop (i + 1) es) =
    ap (map step) (sym (take-append-drop (i + 1) es)) ∙ map-append step (take (i + 1) es) (drop (i + 1) es)
    ∙ ap (λ (xs : List (Typing A)). xs ++ map step (drop (i + 1) es)) (map-more step es i e within is) in
    subst (λ (xs : List (Typing A)). TypesTo {A = List A} (Err g) (all xs fs) js) (sym whole_row)
    (ended w old new one g (map step (take i es)) (map step (drop (i + 1) es)) (step e) fs gs hs js d p q)

-- the walk is over
pub walked : {E A : Type 0} (step : E → Typing A) (es : List E) (n : ℕ) (r : Result (List A) Halt) (fs gs : List Function)
    → length es ≤ n → TypesTo r (all (map step (take n es)) fs) gs → TypesTo r (all (map step es) fs) gs
walked {E = E} step es n r fs gs over p = subst (λ (xs : List E). TypesTo r (all (map step xs) fs) gs) (take_all n es over) p

-- parts that the code has otherwise than they are meant
pub adds-mapped : {A B : Type 0} (m : A → B) (old new : List A) (w : Bool) (one : Result A Halt) (r : Result Bool Halt) → Adds old w one r new → Adds (map m old) w (mapped m one) r (map m new)
adds-mapped m old new w (Ok a) (Ok v) d = record { whole_still = d.whole_still; added = ap (map m) d.added ∙ map-append m old (a ∷ []) }
adds-mapped m old new w (Ok a) (Err g) d = d
adds-mapped m old new w (Err h) (Ok v) d = record { quiet = d.quiet; whole_no_more = d.whole_no_more; same = ap (map m) d.same }
adds-mapped m old new w (Err h) (Err g) d = record { same = d.same; loud = d.loud }

pub so-far-mapped : {A B : Type 0} (m : A → B) (w : Bool) (xs : List A) → so_far w (map m xs) ≡ mapped (map m) (so_far w xs)
so-far-mapped m true xs = refl
so-far-mapped m false xs = refl
