-- Dimensions in a row, one more after the other.
use Rattle.std.proofs.Common.{◌≡◌, ◌≤◌, ℕ, ◌+◌, ◌<◌, List, [], ◌∷◌, ◌++◌, length, get_or, map, take, sym, ap, ◌∙◌, subst, refl}
use Rattle.std.proofs.lemmas.List.{map_more, take_all}
use Rattle.std.specs.Prelude.{Result, Ok, Err}
use Rattle.sv_types.specs.declared.statement.Function.{Function}
use Rattle.sv_tree.specs.declared.expressions.Select.{Select}
use Rattle.expr_type.specs.declared.halt.Halt.{Halt}
use Rattle.expr_type.specs.declared.halt.Halt.TheVariants as H
use Rattle.expr_type.specs.Answers.{Gives}
use Rattle.expr_type.specs.Expressions.{select_meaning}
use Rattle.expr_type.specs.Forms.{SelectMeaning}
use Rattle.expr_type.specs.KeywordTypes.{Dim}
use Rattle.expr_type.specs.Names.{Context}
use Rattle.expr_type.specs.Typings.{Typing, all}
use Rattle.typing_steps.specs.Steps.{TypesTo}
use Rattle.typing_steps.proofs.Turns.{next-fine, next-stops, quiet-fine, quiet-stops}
use Rattle.typing_values.specs.Values.{behind}
use Rattle.typing_paths.specs.Dimensions.{AddsTo, select_dimension_of, select_dimensions_of}

-- one more of what is made of parts in a row
pub more : {A B : Type 0} (f : B → A) (ds : List B) (i : ℕ) (d : B) → i < length ds → d ≡ get_or ds i d
    → map f (take i ds) ++ f d ∷ [] ≡ map f (take (i + 1) ds)
more {A = A} {B = B} f ds i d l e = ap (λ (x : B). map f (take i ds) ++ f x ∷ []) e ∙ sym (map_more f ds i d l)

-- one more part in a row is looked at
pub next-turn : {A B : Type 0} (f : B → Typing A) (ds : List B) (i : ℕ) (d : B) (r : Result (List A) Halt) (fs gs : List Function) → i < length ds → d ≡ get_or ds i d
    → TypesTo r (all (map f (take i ds) ++ f d ∷ []) fs) gs → TypesTo r (all (map f (take (i + 1) ds)) fs) gs
next-turn {A = A} f ds i d r fs gs l e h = subst (λ (xs : List (Typing A)). TypesTo r (all xs fs) gs) (more f ds i d l e) h

-- a row of what is read of a row
pub map-of-map : {A B C : Type 0} (f : B → C) (g : A → B) (xs : List A) → map (λ (x : A). f (g x)) xs ≡ map f (map g xs)
map-of-map f g [] = refl
map-of-map {C = C} f g (x ∷ xs) = ap (λ (ys : List C). f (g x) ∷ ys) (map-of-map f g xs)

whole-by : (made : List Dim) (d : Dim) (r : Result (List Dim) Halt) (xs : List (Typing Dim)) (x : Typing Dim) (fs gs hs : List Function)
    → Gives r (Ok (made ++ d ∷ [])) → TypesTo (Ok made) (all xs fs) gs → TypesTo (Ok d) (x gs) hs → TypesTo r (all (xs ++ x ∷ []) fs) hs
whole-by made d (Ok ds) xs x fs gs hs a p q =
    let e : ds ≡ made ++ d ∷ [] = cc in
    subst (λ (zs : List Dim). TypesTo (Ok zs) (all (xs ++ x ∷ []) fs) hs) (sym e) (next-fine xs x fs gs hs made d p q)
whole-by made d (Err H.Memory) xs x fs gs hs a p q = tt
whole-by made d (Err (H.Breaks at n)) xs x fs gs hs a p q = absurd (cc)
whole-by made d (Err H.Quiet) xs x fs gs hs a p q = absurd (cc)

-- one more dimension behind others that are whole
pub adds : (made : List Dim) (last : Result Dim Halt) (r : Result (List Dim) Halt) (xs : List (Typing Dim)) (x : Typing Dim) (fs gs hs : List Function)
    → AddsTo made last r → TypesTo (Ok made) (all xs fs) gs → TypesTo last (x gs) hs → TypesTo r (all (xs ++ x ∷ []) fs) hs
adds made (Ok d) r xs x fs gs hs a p q = whole-by made d r xs x fs gs hs a p q
adds made (Err h) r xs x fs gs hs a p q =
    subst (λ (s : Result (List Dim) Halt). TypesTo s (all (xs ++ x ∷ []) fs) hs) (sym a) (next-stops xs x fs gs hs made h p q)

behind-by : (last : Result Dim Halt) (xs : List (Typing Dim)) (x : Typing Dim) (fs gs hs : List Function)
    → TypesTo {A = List Dim} (Err H.Quiet) (all xs fs) gs → TypesTo last (x gs) hs → TypesTo {A = List Dim} (Err (behind last)) (all (xs ++ x ∷ []) fs) hs
behind-by (Ok d) xs x fs gs hs p q = quiet-fine xs x fs gs hs d p q
behind-by (Err h) xs x fs gs hs p q = quiet-stops xs x fs gs hs h p q

-- one more behind others that aren't whole and break nothing
pub looks-on : (from : Result (List Dim) Halt) (last : Result Dim Halt) (h : Halt) (xs : List (Typing Dim)) (x : Typing Dim) (fs gs hs : List Function)
    → from ≡ Err H.Quiet → h ≡ behind last → TypesTo from (all xs fs) gs → TypesTo last (x gs) hs → TypesTo {A = List Dim} (Err h) (all (xs ++ x ∷ []) fs) hs
looks-on from last h xs x fs gs hs q e p r =
    subst (λ (g : Halt). TypesTo {A = List Dim} (Err g) (all (xs ++ x ∷ []) fs) hs) (sym e)
    (behind-by last xs x fs gs hs (subst (λ (s : Result (List Dim) Halt). TypesTo s (all xs fs) gs) q p) r)

-- all selects behind the name of a type
pub selected : (k : Context) (ss : List Select) (n : ℕ) (r : Result (List Dim) Halt) (fs gs : List Function) → length ss ≤ n
    → TypesTo r (all (map (select_dimension_of k) (take n ss)) fs) gs → TypesTo r (select_dimensions_of k ss fs) gs
selected k ss n r fs gs over p =
    subst (λ (xs : List (Typing Dim)). TypesTo r (all xs fs) gs)
    (ap (map (select_dimension_of k)) (take_all n ss over) ∙ map-of-map (λ (s : SelectMeaning). s.dimension k) select_meaning ss) p
