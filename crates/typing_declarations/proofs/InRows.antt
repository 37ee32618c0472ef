-- Formals in a row, one more behind the others.
use Rattle.std.proofs.Common.{◌≡◌, List, [], ◌∷◌, ◌++◌, map, length, Option, Some, None, Bool, true, false, cond, ℕ, ◌-◌, refl, sym, ap, ◌∙◌, subst, append_assoc}
use Rattle.std.specs.Prelude.{Result, Ok, Err}
use Rattle.sv_tree.specs.declared.functions.Formal as G
use Rattle.sv_types.specs.declared.statement.Formal.{Formal}
use Rattle.sv_types.specs.declared.statement.Function.{Function}
use Rattle.sv_types.specs.declared.statement.Way.{Way}
use Rattle.expr_type.specs.declared.halt.Halt.{Halt}
use Rattle.expr_type.specs.declared.halt.Halt.TheVariants as H
use Rattle.expr_type.specs.Functions.{Before, FormalFound, at_first, before_if, behind_formal, behind_formals, formal_text, formals, way_by}
use Rattle.expr_type.specs.Names.{Context}
use Rattle.expr_type.specs.Typings.{Checked, Typed, Typing, whole}
use Rattle.typing_scopes.specs.Ahead.{AheadQuiet, AheadWhole}
use Rattle.typing_scopes.proofs.Turning.{ahead-whole, ahead-quiet, ahead-breaks, behind-whole, behind-quiet, behind-breaks, ahead-end, behind-end, ahead-start, ahead-alike}
use Rattle.typing_steps.specs.Steps.{IsQuiet, StopsBy, TypesTo}
use Rattle.typing_declarations.specs.declared.formal_rows.Met.{Met}
use Rattle.typing_declarations.specs.Formals.{Takes, TurnsTo, ended_by}
use Rattle.typing_declarations.specs.FormalRows.{formal_in, IsFormal, IsNoFormal, PerhapsFormal, WholeSoFar, SoFar, AreFormals, FormalsTo}

-- lists
nil-behind : {A : Type 0} (xs : List A) → xs ++ [] ≡ xs
nil-behind [] = refl
nil-behind (x ∷ xs) = ap (λ ys. x ∷ ys) (nil-behind xs)

map-more : (xs : List FormalFound) (x : FormalFound) → map formal_in (xs ++ x ∷ []) ≡ map formal_in xs ++ formal_in x ∷ []
map-more [] x = refl
map-more (y ∷ ys) x = ap (λ zs. formal_in y ∷ zs) (map-more ys x)

behind-more : (k : Context) (xs : List FormalFound) (x : FormalFound) → behind_formals k (xs ++ x ∷ []) ≡ behind_formal (behind_formals k xs) (Some x)
behind-more k [] x = refl
behind-more k (y ∷ ys) x = behind-more (behind_formal k (Some y)) ys x

-- a row's first formal, and the rest behind it
abbrev one_of : Context → Before → G.Formal → Typing FormalFound
one_of j b f = formal_text j b f.direction f.text

abbrev rest_of : Context → Before → G.Formal → List G.Formal → Option FormalFound → Typing (List FormalFound)
rest_of j b f rest o = formals (behind_formal j o) (before_if b.way f.direction o) rest

abbrev in_front : FormalFound → List FormalFound → List FormalFound
in_front x xs = x ∷ xs

-- nothing has been looked at
pub at-start : (k j : Context) (b : Before) (gs : List G.Formal) (fs : List Function) → j ≡ k → b ≡ at_first → SoFar true k j b [] gs (formals k at_first gs fs) fs
at-start k j b gs fs same first =
    subst (λ (i : Context). SoFar true k i b [] gs (formals k at_first gs fs) fs) (sym same)
    (subst (λ (c : Before). SoFar true k k c [] gs (formals k at_first gs fs) fs) (sym first)
    (record { found = []; listed = refl; behind = refl; ahead = ahead-start (formals k at_first gs) fs }))

-- one more is whole
moved : (j i : Context) (b c : Before) (rest : List G.Formal) (E : Type 0) (put : List FormalFound → E) (row : Typed E) (fs : List Function) → i ≡ j → c ≡ b → AheadWhole put (formals i c rest) row fs → AheadWhole put (formals j b rest) row fs
moved j i b c rest E put row fs same so h =
    subst (λ (x : Context). AheadWhole put (formals x b rest) row fs) same (subst (λ (z : Before). AheadWhole put (formals i z rest) row fs) so h)

moved-quiet : (j i : Context) (b c : Before) (rest : List G.Formal) (E : Type 0) (row : Typed E) (fs : List Function) → i ≡ j → c ≡ b → AheadQuiet (formals i c rest) row fs → AheadQuiet (formals j b rest) row fs
moved-quiet j i b c rest E row fs same so h =
    subst (λ (x : Context). AheadQuiet (formals x b rest) row fs) same (subst (λ (z : Before). AheadQuiet (formals i z rest) row fs) so h)

whole-more : (k j i : Context) (b c : Before) (made : List Formal) (f : G.Formal) (rest : List G.Formal) (row : Typed (List FormalFound)) (fs gs : List Function) (r : Formal) → WholeSoFar k j b made (f ∷ rest) row fs
    → IsFormal r c i j (one_of j b f fs) gs → WholeSoFar k i c (made ++ r ∷ []) rest row gs
whole-more k j i b c made f rest row fs gs r w x =
    let y : FormalFound = x.found in
    let ahead : AheadWhole (λ (ys : List FormalFound). w.found ++ (y ∷ ys)) (rest_of j b f rest (Some y)) row gs =
    ahead-whole (one_of j b f) (rest_of j b f rest) in_front (λ ys. w.found ++ ys) row fs gs y w.ahead x.gives in
    record {
      found = w.found ++ y ∷ [];
      listed = map-more w.found y ∙ ap (λ zs. zs ++ formal_in y ∷ []) w.listed ∙ ap (λ z. made ++ z ∷ []) x.formal;
      behind = x.behind ∙ ap (λ (q : Context). behind_formal q (Some y)) w.behind ∙ sym (behind-more k w.found y);
      ahead = moved i (behind_formal j (Some y)) c y.before rest (List FormalFound) (λ (ys : List FormalFound). (w.found ++ y ∷ []) ++ ys) row gs (sym x.behind) x.before
          (ahead-alike (λ (ys : List FormalFound). w.found ++ (y ∷ ys)) (λ (ys : List FormalFound). (w.found ++ y ∷ []) ++ ys) (rest_of j b f rest (Some y)) row gs (λ ys. sym (append_assoc w.found (y ∷ []) ys)) ahead);
    }

quiet-more : (j i : Context) (b c : Before) (f : G.Formal) (rest : List G.Formal) (row : Typed (List FormalFound)) (fs gs : List Function) (r : Formal) → AheadQuiet (formals j b (f ∷ rest)) row fs
    → IsFormal r c i j (one_of j b f fs) gs → AheadQuiet (formals i c rest) row gs
quiet-more j i b c f rest row fs gs r q x =
    moved-quiet i (behind_formal j (Some x.found)) c x.found.before rest (List FormalFound) row gs (sym x.behind) x.before
    (behind-whole (one_of j b f) (rest_of j b f rest) in_front row fs gs x.found q x.gives)

pub one-more : (all : Bool) (k j i : Context) (b c : Before) (made : List Formal) (f : G.Formal) (rest : List G.Formal) (row : Typed (List FormalFound)) (fs gs : List Function) (r : Formal) → SoFar all k j b made (f ∷ rest) row fs
    → IsFormal r c i j (one_of j b f fs) gs → SoFar all k i c (made ++ r ∷ []) rest row gs
one-more true k j i b c made f rest row fs gs r s x = whole-more k j i b c made f rest row fs gs r s x
one-more false k j i b c made f rest row fs gs r s x = quiet-more j i b c f rest row fs gs r s x

-- one breaks nothing and isn't whole
pub one-quiet : (all : Bool) (k j i : Context) (b c : Before) (made : List Formal) (f : G.Formal) (rest : List G.Formal) (row : Typed (List FormalFound)) (fs gs : List Function) (way : Way) → SoFar all k j b made (f ∷ rest) row fs
    → IsNoFormal c way i j (one_of j b f fs) gs → before_if b.way f.direction None ≡ record { way = way; of = None } → SoFar false k i c made rest row gs
one-quiet true k j i b c made f rest row fs gs way s x is =
    moved-quiet i j c (before_if b.way f.direction None) rest (List FormalFound) row gs (sym x.behind) (is ∙ sym x.before)
    (ahead-quiet (one_of j b f) (rest_of j b f rest) in_front (λ ys. s.found ++ ys) row fs gs s.ahead x.quiet)
one-quiet false k j i b c made f rest row fs gs way s x is =
    moved-quiet i j c (before_if b.way f.direction None) rest (List FormalFound) row gs (sym x.behind) (is ∙ sym x.before)
    (behind-quiet (one_of j b f) (rest_of j b f rest) in_front row fs gs s x.quiet)

-- one breaks a rule
pub one-breaks : (all : Bool) (k j : Context) (b : Before) (made : List Formal) (f : G.Formal) (rest : List G.Formal) (row : Typed (List FormalFound)) (fs gs hs : List Function) (at n : ℕ) → SoFar all k j b made (f ∷ rest) row fs
    → StopsBy (H.Breaks at n) (one_of j b f fs) gs → StopsBy (H.Breaks at n) row hs
one-breaks true k j b made f rest row fs gs hs at n s x = ahead-breaks (one_of j b f) (rest_of j b f rest) in_front (λ ys. s.found ++ ys) row fs gs at n s.ahead x hs
one-breaks false k j b made f rest row fs gs hs at n s x = behind-breaks (one_of j b f) (rest_of j b f rest) in_front row fs gs at n s x hs

-- all have been looked at
pub at-end : (k j : Context) (b : Before) (made : List Formal) (row : Typed (List FormalFound)) (fs : List Function) → SoFar true k j b made [] row fs → AreFormals made j k row fs
at-end k j b made row fs s =
    let end : row ≡ record { result = Ok (s.found ++ []); functions = fs } = ahead-end [] (λ (ys : List FormalFound). s.found ++ ys) row fs s.ahead in
    record {
      found = s.found;
      gives = end ∙ ap (λ (xs : List FormalFound). let t : Typed (List FormalFound) = record { result = Ok xs; functions = fs } in t) (nil-behind s.found);
      listed = s.listed;
      behind = s.behind;
    }

pub quiet-end : (k j : Context) (b : Before) (made : List Formal) (row : Typed (List FormalFound)) (fs : List Function) → SoFar false k j b made [] row fs → StopsBy H.Quiet row fs
quiet-end k j b made row fs s = behind-end {E = List FormalFound} [] row fs s

-- one more, as the code meets it
pub row-taken : (k j i : Context) (b c : Before) (old new : Met) (o : Option Formal) (f : G.Formal) (rest : List G.Formal) (row : Typed (List FormalFound)) (fs gs : List Function) → Takes o old new → SoFar old.whole k j b old.made (f ∷ rest) row fs
    → PerhapsFormal o c (way_by b.way f.direction) i j (one_of j b f fs) gs → SoFar new.whole k i c new.made rest row gs
row-taken k j i b c old new (Some r) f rest row fs gs is s x =
    subst (λ (m : Met). SoFar m.whole k i c m.made rest row gs) (sym is) (one-more old.whole k j i b c old.made f rest row fs gs r s x)
row-taken k j i b c old new None f rest row fs gs is s x =
    subst (λ (m : Met). SoFar m.whole k i c m.made rest row gs) (sym is) (one-quiet old.whole k j i b c old.made f rest row fs gs (way_by b.way f.direction) s x refl)

pub row-stops : (k j i l : Context) (b : Before) (met : Met) (f : G.Formal) (rest : List G.Formal) (row : Typed (List FormalFound)) (fs gs : List Function) (way : Way) (h : Halt) → SoFar met.whole k j b met.made (f ∷ rest) row fs
    → TurnsTo (Err h) way i j (one_of j b f fs) gs → FormalsTo (Err h) l k row gs
row-stops k j i l b met f rest row fs gs way H.Memory s x = tt
row-stops k j i l b met f rest row fs gs way (H.Breaks at n) s x = one-breaks met.whole k j b met.made f rest row fs gs gs at n s x
row-stops k j i l b met f rest row fs gs way H.Quiet s x = absurd x

pub row-ends : (whole : Bool) (k j : Context) (b : Before) (made : List Formal) (row : Typed (List FormalFound)) (fs : List Function) → SoFar whole k j b made [] row fs → FormalsTo (ended_by whole made) j k row fs
row-ends true k j b made row fs s = at-end k j b made row fs s
row-ends false k j b made row fs s = quiet-end k j b made row fs s
