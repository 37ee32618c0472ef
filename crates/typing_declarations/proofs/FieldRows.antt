-- Members in a row, one more after the other.
use Rattle.std.proofs.Common.{◌≡◌, ℕ, zero, suc, ◌<◌, Bool, true, List, [], ◌∷◌, ◌++◌, ◌+◌, map, length, get_or, take, Option, Some, None, refl, sym, ap, ◌∙◌, subst, arith}
use Rattle.std.proofs.lemmas.List.{map_more}
use Rattle.std.specs.Prelude.{Result, Ok, Err}
use Rattle.sv_tree.specs.declared.types.DimensionedName.{DimensionedName}
use Rattle.sv_types.specs.declared.statement.Function.{Function}
use Rattle.sv_types.specs.declared.types.SvType.{SvType}
use Rattle.expr_type.specs.declared.halt.Halt.{Halt}
use Rattle.expr_type.specs.declared.halt.Halt.TheVariants as H
use Rattle.expr_type.specs.Answers.{Gives}
use Rattle.expr_type.specs.Breaks.{Quiet}
use Rattle.expr_type.specs.KeywordTypes.{Dim}
use Rattle.expr_type.specs.Names.{Context, Source}
use Rattle.expr_type.specs.Types.{Field, dims}
use Rattle.expr_type.specs.Typings.{Typing, all, broken, rule}
use Rattle.type_texts.specs.Fields.{field}
use Rattle.typing_fits.proofs.Full.{and-left, and-right}
use Rattle.typing_walks.specs.Written as W
use Rattle.typing_steps.specs.Steps.{TypesTo}
use Rattle.typing_steps.proofs.Combining.{checked-fine, checked-stops, rule-types}
use Rattle.typing_steps.proofs.Turns.{next-fine, next-stops, quiet-fine, quiet-stops}
use Rattle.typing_values.specs.Values.{behind}
use Rattle.typing_declarations.specs.Texts.{AddsTo, field_by}

whole-by : (made : List Field) (f : Field) (r : Result (List Field) Halt) (xs : List (Typing Field)) (x : Typing Field) (fs gs hs : List Function)
    → Gives r (Ok (made ++ f ∷ [])) → TypesTo (Ok made) (all xs fs) gs → TypesTo (Ok f) (x gs) hs → TypesTo r (all (xs ++ x ∷ []) fs) hs
whole-by made f (Ok more) xs x fs gs hs a p q =
    let e : more ≡ made ++ f ∷ [] = cc in
    subst (λ (zs : List Field). TypesTo (Ok zs) (all (xs ++ x ∷ []) fs) hs) (sym e) (next-fine xs x fs gs hs made f p q)
whole-by made f (Err H.Memory) xs x fs gs hs a p q = tt
whole-by made f (Err (H.Breaks at n)) xs x fs gs hs a p q = absurd (cc)
whole-by made f (Err H.Quiet) xs x fs gs hs a p q = absurd (cc)

-- one more behind others that are whole
pub adds : (made : List Field) (last : Result Field Halt) (r : Result (List Field) Halt) (xs : List (Typing Field)) (x : Typing Field) (fs gs hs : List Function)
    → AddsTo made last r → TypesTo (Ok made) (all xs fs) gs → TypesTo last (x gs) hs → TypesTo r (all (xs ++ x ∷ []) fs) hs
adds made (Ok f) r xs x fs gs hs a p q = whole-by made f r xs x fs gs hs a p q
adds made (Err h) r xs x fs gs hs a p q =
    subst (λ (s : Result (List Field) Halt). TypesTo s (all (xs ++ x ∷ []) fs) hs) (sym a) (next-stops xs x fs gs hs made h p q)

behind-by : (last : Result Field Halt) (xs : List (Typing Field)) (x : Typing Field) (fs gs hs : List Function)
    → TypesTo {A = List Field} (Err H.Quiet) (all xs fs) gs → TypesTo last (x gs) hs → TypesTo {A = List Field} (Err (behind last)) (all (xs ++ x ∷ []) fs) hs
behind-by (Ok f) xs x fs gs hs p q = quiet-fine xs x fs gs hs f p q
behind-by (Err h) xs x fs gs hs p q = quiet-stops xs x fs gs hs h p q

-- one more behind others that aren't whole and break nothing
pub looks-on : (from : Result (List Field) Halt) (last : Result Field Halt) (h : Halt) (xs : List (Typing Field)) (x : Typing Field) (fs gs hs : List Function)
    → from ≡ Err H.Quiet → h ≡ behind last → TypesTo from (all xs fs) gs → TypesTo last (x gs) hs → TypesTo {A = List Field} (Err h) (all (xs ++ x ∷ []) fs) hs
looks-on from last h xs x fs gs hs q e p r =
    subst (λ (g : Halt). TypesTo {A = List Field} (Err g) (all (xs ++ x ∷ []) fs) hs) (sym e)
    (behind-by last xs x fs gs hs (subst (λ (s : Result (List Field) Halt). TypesTo s (all xs fs) gs) q p) r)

-- one more of a row is looked at
pub next-turn : {A B : Type 0} (f : B → Typing A) (ds : List B) (i : ℕ) (d : B) (r : Result (List A) Halt) (fs gs : List Function) → i < length ds → d ≡ get_or ds i d
    → TypesTo r (all (map f (take i ds) ++ f d ∷ []) fs) gs → TypesTo r (all (map f (take (i + 1) ds)) fs) gs
next-turn {A = A} {B = B} f ds i d r fs gs l is p =
    subst (λ (xs : List (Typing A)). TypesTo r (all xs fs) gs) (ap (λ (x : B). map f (take i ds) ++ f x ∷ []) is ∙ sym (map_more f ds i d l)) p

-- a member, by its type if that is whole
module _ (k : Context) (inside : Bool) (n : DimensionedName) (fs gs : List Function) where
  pub field-stops : (o : Option SvType) (h : Halt) → TypesTo {A = List Dim} (Err h) (dims k n.unpacked fs) gs → TypesTo {A = Field} (Err h) (field_by k inside o n fs) gs
  field-stops None h p = checked-stops (dims k n.unpacked) (λ ds. broken Quiet) fs gs h p
  field-stops (Some t) h p = checked-stops (dims k n.unpacked) (λ ds. rule (field k.source inside n.name ds t)) fs gs h p

  pub field-quiet : (o : Option SvType) (ds : List Dim) → o ≡ None → TypesTo (Ok ds) (dims k n.unpacked fs) gs → TypesTo {A = Field} (Err H.Quiet) (field_by k inside o n fs) gs
  field-quiet None ds is p = checked-fine (dims k n.unpacked) (λ ds. broken Quiet) fs gs gs ds (Err H.Quiet) p (record { quiet = refl; functions = refl })
  field-quiet (Some t) ds is p = absurd (cc)

  whole-field : (t : SvType) (ds : List Dim) (r : Result Field Halt) → TypesTo (Ok ds) (dims k n.unpacked fs) gs → Gives r (field k.source inside n.name ds t) → TypesTo r (field_by k inside (Some t) n fs) gs
  whole-field t ds r p g = checked-fine (dims k n.unpacked) (λ ds. rule (field k.source inside n.name ds t)) fs gs gs ds r p (rule-types r (field k.source inside n.name ds t) gs g)

  pub field-types : (o : Option SvType) (s : Source) (t : SvType) (ds : List Dim) (r : Result Field Halt) → o ≡ Some t → s ≡ k.source → TypesTo (Ok ds) (dims k n.unpacked fs) gs → Gives r (field s inside n.name ds t)
      → TypesTo r (field_by k inside o n fs) gs
  field-types o s t ds r is e p g =
      subst (λ (q : Option SvType). TypesTo r (field_by k inside q n fs) gs) (sym is) (whole-field t ds r p (subst (λ (z : Source). Gives r (field z inside n.name ds t)) e g))

-- each of a list that is written
pub each-written : {A : Type 0} (of : A → Bool) (xs : List A) (i : ℕ) (x d : A) → i < length xs → x ≡ get_or xs i d → W.all (map of xs) ≡ true → of x ≡ true
each-written of [] i x d h is w = absurd (omega arith)
each-written of (y ∷ ys) zero x d h is w = ap of is ∙ and-left (of y) (W.all (map of ys)) w
each-written of (y ∷ ys) (suc i) x d h is w = each-written of ys i x d (omega arith) is (and-right (of y) (W.all (map of ys)) w)

pub ruleset fielding = (field-stops, field-quiet, field-types)
