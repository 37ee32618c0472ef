-- What the functions make of a case, and of one after the other.
use Rattle.std.proofs.Common.{◌≡◌, ℕ, ◌≤◌, ℤ, pos, negsuc, ◌+ℤ◌, ◌≤ℤ◌, ◌<ℤ◌, int_lt, true, List, [], ◌∷◌, ◌++◌, length, Option, Some, None, Result, Ok, Err, IfOk, OnOk, sym, ap, ◌∙◌, subst, arith}
use Rattle.std.specs.Prelude.{unsigned_abs}
use Rattle.std.specs.declared.alloc.AllocError.{AllocError}
use Rattle.std.proofs.lemmas.Int.{ints, to_z-of_z}
use mir.Val.{SFits, to_z, of_z}
use mir.Syntax.{w128}
use Rattle.b4_core.specs.declared.bit.Bit4.{Bit4}
use Rattle.b4_core.specs.Vectors.{vec}
use Rattle.sv_types.specs.declared.expression.Expr.{Expr}
use Rattle.path_flatten.specs.declared.offsets.Index.{Index}
use Rattle.target_walk.specs.declared.given.Given.{Given}
use Rattle.target_walk.specs.declared.given.Given.TheVariants as G
use Rattle.filled_paths.specs.Numbers.{Fills}
use Rattle.case_targets.specs.declared.cases.Case.{Case}
use Rattle.case_targets.specs.Spreading.{number_in, HasBitsIf, HasCase, HasCaseIf}

pub if-ok : {A E : Type 0} (P Q : A → Type 0) (r : Result A E) → IfOk r P → ((x : A) → P x → Q x) → IfOk r Q
if-ok P Q (Ok x) h f = f x h
if-ok P Q (Err e) h f = tt

pub on-ok : {A E : Type 0} (P Q : Type 0) (r : Result A E) → OnOk r P → (P → Q) → OnOk r Q
on-ok P Q (Ok x) h f = f h
on-ok P Q (Err e) h f = tt

ok-value : {A : Type 0} → A → Result A AllocError → A
ok-value d (Ok x) = x
ok-value d (Err e) = d

pub ok-same : {A : Type 0} (x y : A) (r : Result A AllocError) → r ≡ Ok x → r ≡ Ok y → x ≡ y
unfolding ok-value
ok-same x y r h g = ap (ok-value x) (sym h ∙ g)

pub case-made : (e : Expr) (gs : List Given) (i : Index) (m k : ℤ) → m ≡ k → (field : Option (List Bit4)) (n number : List Bit4) (lit : Result Expr AllocError) (p path : Expr) (got : Result (List Given) AllocError) (done : List Given)
    → field ≡ Some n → HasBitsIf i m field → IfOk lit (Fills e (length gs) n) → n ≡ number → lit ≡ Ok p → p ≡ path → got ≡ Ok done → IfOk got (λ l. l ≡ gs ++ G.Known (Some m) ∷ [])
    → HasCase e gs i k (record { number = number; path = path; done = done })
case-made e gs i m k same field n number lit p path got done is bits fills n_same lit_is p_same got_is with_number =
    let has : (n ≡ vec i.width m) × (number_in i.signed n ≡ Some m) = subst (HasBitsIf i m) is bits in
    record {
      number = sym n_same ∙ has.0 ∙ ap (vec i.width) same;
      has = ap (number_in i.signed) (sym n_same) ∙ has.1 ∙ ap (λ (z : ℤ). Some z) same;
      path = subst (λ b. Fills e (length gs) b path) n_same (subst (λ f. Fills e (length gs) n f) p_same (subst (λ (r : Result Expr AllocError). IfOk r (Fills e (length gs) n)) lit_is fills));
      done = subst (λ (r : Result (List Given) AllocError). IfOk r (λ l. l ≡ gs ++ G.Known (Some m) ∷ [])) got_is with_number ∙ ap (λ (z : ℤ). gs ++ G.Known (Some z) ∷ []) same;
    }

pub case-is : (e : Expr) (gs : List Given) (i : Index) (m k : ℤ) → m ≡ k → (field : Option Case) (c : Case) → field ≡ Some c → HasCaseIf e gs i m field → HasCase e gs i k c
case-is e gs i m k same field c is h = subst (λ z. HasCase e gs i z c) same (subst (HasCaseIf e gs i m) is h)

pub case-never : (e : Expr) (gs : List Given) (i : Index) (m k : ℤ) → m ≡ k → (field : Option Case) → field ≡ None → HasCaseIf e gs i m field → number_in i.signed (vec i.width k) ≡ Some k → ⊥
case-never e gs i m k same field is h = subst (λ z. number_in i.signed (vec i.width z) ≡ Some z → ⊥) same (subst (HasCaseIf e gs i m) is h)

pub between-small : (n : ℕ) (low k high : ℤ) → unsigned_abs low ≤ n → unsigned_abs high ≤ n → low ≤ℤ k → k ≤ℤ high → unsigned_abs k ≤ n
between-small n (pos l) (pos k) (pos h) a b c d = omega (arith, ints, a, b, c, d)
between-small n (pos l) (pos k) (negsuc h) a b c d = omega (arith, ints, a, b, c, d)
between-small n (pos l) (negsuc k) (pos h) a b c d = omega (arith, ints, a, b, c, d)
between-small n (pos l) (negsuc k) (negsuc h) a b c d = omega (arith, ints, a, b, c, d)
between-small n (negsuc l) (pos k) (pos h) a b c d = omega (arith, ints, a, b, c, d)
between-small n (negsuc l) (pos k) (negsuc h) a b c d = omega (arith, ints, a, b, c, d)
between-small n (negsuc l) (negsuc k) (pos h) a b c d = omega (arith, ints, a, b, c, d)
between-small n (negsuc l) (negsuc k) (negsuc h) a b c d = omega (arith, ints, a, b, c, d)

sfits : (z : ℤ) → unsigned_abs z ≤ 36893488147419103232 → SFits w128 z
sfits (pos n) h = record { sfits = omega (arith, h) }
sfits (negsuc n) h = record { sfits = omega (arith, h) }

pub round : (z : ℤ) → unsigned_abs z ≤ 36893488147419103232 → to_z w128 (of_z w128 z) ≡ z
round z h = to_z-of_z w128 z (sfits z h)

next-small : (z : ℤ) → unsigned_abs z ≤ 18446744073709551616 → unsigned_abs (z +ℤ pos 1) ≤ 36893488147419103232
next-small (pos n) h = omega (arith, ints, h)
next-small (negsuc n) h = omega (arith, ints, h)

pub one-more : (z : ℤ) → unsigned_abs z ≤ 18446744073709551616 → to_z w128 (of_z w128 (z +ℤ pos 1)) ≡ z +ℤ pos 1
one-more z h = round (z +ℤ pos 1) (next-small z h)

pub range-end : (z : ℤ) → unsigned_abs z ≤ 18446744073709551616 → to_z w128 (of_z w128 (to_z w128 (of_z w128 z) +ℤ pos 1)) ≡ z +ℤ pos 1
range-end z h = ap (λ (x : ℤ). to_z w128 (of_z w128 (x +ℤ pos 1))) (round z (omega (arith, h))) ∙ one-more z h

below-test : (x y : ℤ) → int_lt x y ≡ true → x <ℤ y
below-test x y h = omega (arith, ints, h)

pub in-range : (n : ℕ) (low k high : ℤ) → unsigned_abs low ≤ n → unsigned_abs high ≤ n → low ≤ℤ k → int_lt k (high +ℤ pos 1) ≡ true → unsigned_abs k ≤ n
in-range n low k high a b above less = (let below = below-test k (high +ℤ pos 1) less in between-small n low k high a b above (omega (arith, ints, below)))
