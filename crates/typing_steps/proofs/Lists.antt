-- Steps in a row, one after the other.
use Rattle.std.proofs.Common.{◌≡◌, List, [], ◌∷◌, ◌++◌, Option, Some, None, refl, sym, ap, ◌∙◌, subst}
use Rattle.std.specs.Prelude.{Result, Ok, Err}
use Rattle.sv_types.specs.declared.statement.Function.{Function}
use Rattle.expr_type.specs.declared.halt.Halt.{Halt}
use Rattle.expr_type.specs.declared.halt.Halt.TheVariants as H
use Rattle.expr_type.specs.Answers.{Break, first_break, or_next, reason}
use Rattle.expr_type.specs.Breaks.{Breaks, And}
use Rattle.expr_type.specs.Typings.{Checked, Typed, Typing, joined, applied, checked, beside, all, whole}
use Rattle.typing_steps.specs.Steps.{TypesTo}

-- two steps that are whole alike and stop alike
pub record Alike {A : Type 0} (t u : Typed A) : Type 0 where
  pub functions : t.functions ≡ u.functions
  pub stops : reason t.result ≡ reason u.result
  pub fine : (a : A) → t.result ≡ Ok a → u.result ≡ Ok a

pub alike-types : {A : Type 0} (r : Result A Halt) (t u : Typed A) (fs : List Function) → Alike t u → TypesTo r t fs → TypesTo r u fs
alike-types {A = A} (Ok a) t u fs k p =
    let e : u.result ≡ Ok a = k.fine a (ap (λ (s : Typed A). s.result) p) in
    let f : u.functions ≡ fs = sym k.functions ∙ ap (λ (s : Typed A). s.functions) p in
    ap (λ (c : Checked A). record { result = c; functions = u.functions }) e ∙ ap (λ (gs : List Function). record { result = Ok a; functions = gs }) f
alike-types (Err H.Memory) t u fs k p = tt
alike-types (Err (H.Breaks at n)) t u fs k p = sym k.stops ∙ p
alike-types (Err H.Quiet) t u fs k p = record { quiet = sym k.stops ∙ p.quiet; functions = sym k.functions ∙ p.functions }

broke : {A : Type 0} (x z : Breaks) (fs gs : List Function) → fs ≡ gs → Some (first_break x) ≡ Some (first_break z)
    → Alike {A = A} (record { result = Err x; functions = fs }) (record { result = Err z; functions = gs })
broke x z fs gs e f = record { functions = e; stops = f; fine = λ a h. absurd (cc) }

next-both : (o p q : Option Break) → Some p ≡ Some q → Some (or_next o p) ≡ Some (or_next o q)
next-both o p q e = let h : p ≡ q = cc in ap (λ (z : Option Break). Some (or_next o z)) h

next-three : (o p q s : Option Break) → Some (or_next p q) ≡ Some s → Some (or_next (or_next o p) q) ≡ Some (or_next o s)
next-three None p q s e = e
next-three (Some b) p q s e = refl

abbrev appended : {A : Type 0} → List A × List A → Typing (List A)
appended p = whole (p.0 ++ p.1)

abbrev put : {A : Type 0} → A × List A → Typing (List A)
put p = whole (p.0 ∷ p.1)

put-keeps : {A : Type 0} (r : Checked (A × List A)) (fs : List Function) → (applied r put fs).functions ≡ fs
put-keeps (Ok p) fs = refl
put-keeps (Err x) fs = refl

first-put : {A : Type 0} (ra : Checked A) (ru rw c : Checked (List A)) (fu fw fc : List Function)
    → Alike (applied (joined ru rw) appended fw) (record { result = c; functions = fc })
    → Alike (applied (joined (applied (joined ra ru) put fu).result rw) appended fw) (applied (joined ra c) put fc)
first-put {A = A} (Ok a) (Ok us) (Ok ws) (Ok cs) fu fw fc k =
    let same = k.fine (us ++ ws) refl in
    let h : cs ≡ us ++ ws = cc in
    record { functions = k.functions; stops = refl; fine = λ b e. ap (λ (z : List A). put-ok (a ∷ z)) h ∙ e }
  where
    put-ok : List A → Checked (List A)
    put-ok z = Ok z
first-put (Ok a) (Ok us) (Ok ws) (Err z) fu fw fc k = let s = k.stops in absurd (cc)
first-put (Ok a) (Ok us) (Err y) (Ok cs) fu fw fc k = let s = k.stops in absurd (cc)
first-put (Ok a) (Ok us) (Err y) (Err z) fu fw fc k = broke y z fw fc k.functions k.stops
first-put (Ok a) (Err x) (Ok ws) (Ok cs) fu fw fc k = let s = k.stops in absurd (cc)
first-put (Ok a) (Err x) (Ok ws) (Err z) fu fw fc k = broke x z fw fc k.functions k.stops
first-put (Ok a) (Err x) (Err y) (Ok cs) fu fw fc k = let s = k.stops in absurd (cc)
first-put (Ok a) (Err x) (Err y) (Err z) fu fw fc k = broke (And x y) z fw fc k.functions k.stops
first-put (Err b) (Ok us) (Ok ws) (Ok cs) fu fw fc k = broke b b fw fc k.functions refl
first-put (Err b) (Ok us) (Ok ws) (Err z) fu fw fc k = let s = k.stops in absurd (cc)
first-put (Err b) (Ok us) (Err y) (Ok cs) fu fw fc k = let s = k.stops in absurd (cc)
first-put (Err b) (Ok us) (Err y) (Err z) fu fw fc k = broke (And b y) (And b z) fw fc k.functions (next-both (first_break b) (first_break y) (first_break z) k.stops)
first-put (Err b) (Err x) (Ok ws) (Ok cs) fu fw fc k = let s = k.stops in absurd (cc)
first-put (Err b) (Err x) (Ok ws) (Err z) fu fw fc k = broke (And b x) (And b z) fw fc k.functions (next-both (first_break b) (first_break x) (first_break z) k.stops)
first-put (Err b) (Err x) (Err y) (Ok cs) fu fw fc k = let s = k.stops in absurd (cc)
first-put (Err b) (Err x) (Err y) (Err z) fu fw fc k =
    broke (And (And b x) y) (And b z) fw fc k.functions (next-three (first_break b) (first_break x) (first_break y) (first_break z) k.stops)

none-put : {A : Type 0} (t : Typed (List A)) → Alike (applied (joined (Ok []) t.result) appended t.functions) t
none-put {A = A} t = by t.result t.functions
  where
    by : (r : Checked (List A)) (fs : List Function) → Alike (applied (joined (Ok []) r) appended fs) (record { result = r; functions = fs })
    by (Ok as') fs = record { functions = refl; stops = refl; fine = λ a e. e }
    by (Err x) fs = broke x x fs fs refl refl

-- steps in a row are the first of them and then the others
pub all-append : {A : Type 0} (xs ys : List (Typing A)) (fs : List Function) → Alike (checked (beside (all xs) (all ys)) appended fs) (all (xs ++ ys) fs)
all-append {A = A} [] ys fs = none-put (all ys fs)
all-append {A = A} (x ∷ xs) ys fs =
    let a = x fs in
    let u = all xs a.functions in
    let r = applied (joined a.result u.result) put u.functions in
    let v = all (xs ++ ys) a.functions in
    let k = first-put a.result u.result (all ys u.functions).result v.result u.functions (all ys u.functions).functions v.functions (all-append xs ys a.functions) in
    subst (λ (gs : List Function). let s = all ys gs in Alike (applied (joined r.result s.result) appended s.functions) (all (x ∷ (xs ++ ys)) fs))
    (sym (put-keeps (joined a.result u.result) u.functions)) k

-- one step more
pub all-more : {A : Type 0} (xs : List (Typing A)) (x : Typing A) (fs gs : List Function) (r : Result (List A) Halt)
    → TypesTo r (checked (beside (all xs) (all (x ∷ []))) appended fs) gs → TypesTo r (all (xs ++ x ∷ []) fs) gs
all-more xs x fs gs r p = alike-types r (checked (beside (all xs) (all (x ∷ []))) appended fs) (all (xs ++ x ∷ []) fs) gs (all-append xs (x ∷ []) fs) p
