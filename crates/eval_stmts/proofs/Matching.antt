-- How values match a selector, and the ends of lists that go side by side.
use Rattle.std.proofs.Common.{◌≡◌, ℕ, ◌+◌, ◌<◌, ◌≤◌, max, min, Bool, true, false, ◌&&◌, List, [], ◌∷◌, ◌++◌, map, drop, length, get_or, ◌⊎◌, inl, inr, Some, refl, arith, ap, sym, ◌∙◌}
use Rattle.std.specs.Prelude.{slice_get, nat_le}
use Rattle.std.proofs.lemmas.Bool.Decides.{nat_tests}
use Rattle.std.proofs.Math.ListN.{drop_of_length-le}
use Rattle.std.proofs.lemmas.Option.{slice_get-get_or}
use Rattle.b4_core.specs.declared.bit.Bit4.{Bit4}
use Rattle.sv_types.specs.declared.statement.CaseKind.{CaseKind}
use Rattle.sv_types.specs.Meanings.{Meaning}
use Rattle.sv_types.specs.Runs.{match4, agree, widest_of, all_taken_in}
use Rattle.sv_types.specs.Efforts.{all_take_in}
use Rattle.sv_types.specs.declared.expression.Expr.{Expr}
use Rattle.sv_types.specs.declared.statement.Formal.{Formal}
use Rattle.sv_types.specs.Surroundings.{Around, Tally, Parameter}
use Rattle.sv_types.specs.Functions.{parameter}
use Rattle.sv_types.specs.Expressions.{meaning}
use Rattle.eval_exprs.proofs.Turns.{at-front}

pub front : (u : List Bit4) (i : ℕ) (p : Bit4) → i < length u → slice_get u i ≡ Some p → drop i u ≡ p ∷ drop (i + 1) u
front u i p h is = at-front u i p h (let e : Some p ≡ Some (get_or u i p) = sym is ∙ slice_get-get_or u i p h in cc)

pub agree-here : (kind : CaseKind) (u v : List Bit4) (i : ℕ) (p q : Bit4) → i < length u → i < length v → slice_get u i ≡ Some p → slice_get v i ≡ Some q
    → agree kind (drop i u) (drop i v) ≡ (match4 kind p q && agree kind (drop (i + 1) u) (drop (i + 1) v))
agree-here kind u v i p q hu hv pu qv =
    ap (λ x. agree kind x (drop i v)) (front u i p hu pu) ∙ ap (λ y. agree kind (p ∷ drop (i + 1) u) y) (front v i q hv qv)

pub differ : (kind : CaseKind) (u v : List Bit4) (i : ℕ) (p q : Bit4) → i < length u → i < length v → slice_get u i ≡ Some p → slice_get v i ≡ Some q → match4 kind p q ≡ false → agree kind (drop i u) (drop i v) ≡ false
differ kind u v i p q hu hv pu qv is-false = agree-here kind u v i p q hu hv pu qv ∙ ap (λ b. b && agree kind (drop (i + 1) u) (drop (i + 1) v)) is-false

pub agree-on : (kind : CaseKind) (u v : List Bit4) (i : ℕ) (p q : Bit4) → i < length u → i < length v → slice_get u i ≡ Some p → slice_get v i ≡ Some q → match4 kind p q ≡ true
    → agree kind (drop (i + 1) u) (drop (i + 1) v) ≡ agree kind (drop i u) (drop i v)
agree-on kind u v i p q hu hv pu qv is-true = sym (agree-here kind u v i p q hu hv pu qv ∙ ap (λ b. b && agree kind (drop (i + 1) u) (drop (i + 1) v)) is-true)

-- behind the end of either
left-ends : (kind : CaseKind) (u v : List Bit4) (i : ℕ) → length u ≤ i → agree kind (drop i u) (drop i v) ≡ true
left-ends kind u v i h = ap (λ x. agree kind x (drop i v)) (drop_of_length-le u h)

nothing-agrees : (kind : CaseKind) (u : List Bit4) → agree kind u [] ≡ true
nothing-agrees kind [] = refl
nothing-agrees kind (p ∷ u) = refl

right-ends : (kind : CaseKind) (u v : List Bit4) (i : ℕ) → length v ≤ i → agree kind (drop i u) (drop i v) ≡ true
right-ends kind u v i h = ap (λ x. agree kind (drop i u) x) (drop_of_length-le v h) ∙ nothing-agrees kind (drop i u)

pub all-agree : (kind : CaseKind) (u v : List Bit4) (i : ℕ) → (length u ≤ i) ⊎ (length v ≤ i) → agree kind (drop i u) (drop i v) ≡ true
all-agree kind u v i (inl h) = left-ends kind u v i h
all-agree kind u v i (inr h) = right-ends kind u v i h

pub by-min : (m n i : ℕ) → min m n ≤ i → (m ≤ i) ⊎ (n ≤ i)
by-min m n i h = by (nat_le m n) refl
  where
    by : (b : Bool) → nat_le m n ≡ b → (m ≤ i) ⊎ (n ≤ i)
    by true e = inl (let l : m ≤ n = grind (arith, nat_tests) in omega arith)
    by false e = inr (let l : n ≤ m = grind (arith, nat_tests) in omega arith)

-- the widest of two lists
pub widest-append : (xs ys : List Meaning) → widest_of (xs ++ ys) ≡ max (widest_of xs) (widest_of ys)
widest-append [] ys = omega arith
widest-append (x ∷ xs) ys = let h = widest-append xs ys in omega arith

-- behind the last formal or the last actual nothing is passed
nothing-taken : (ps : List Parameter) (a : Around) → all_taken_in ps [] a ≡ []
nothing-taken [] a = refl
nothing-taken (p ∷ ps) a = refl

nothing-takes : (ps : List Parameter) (a : Around) (t : Tally) → all_take_in ps [] a t ≡ t
nothing-takes [] a t = refl
nothing-takes (p ∷ ps) a t = refl

pub no-more-taken : (fs : List Formal) (es : List Expr) (i : ℕ) (a : Around) → (length fs ≤ i) ⊎ (length es ≤ i) → all_taken_in (map parameter (drop i fs)) (map meaning (drop i es)) a ≡ []
no-more-taken fs es i a (inl h) = ap (λ xs. all_taken_in (map parameter xs) (map meaning (drop i es)) a) (drop_of_length-le fs h)
no-more-taken fs es i a (inr h) = ap (λ xs. all_taken_in (map parameter (drop i fs)) (map meaning xs) a) (drop_of_length-le es h) ∙ nothing-taken (map parameter (drop i fs)) a

pub no-more-takes : (fs : List Formal) (es : List Expr) (i : ℕ) (a : Around) (t : Tally) → (length fs ≤ i) ⊎ (length es ≤ i) → all_take_in (map parameter (drop i fs)) (map meaning (drop i es)) a t ≡ t
no-more-takes fs es i a t (inl h) = ap (λ xs. all_take_in (map parameter xs) (map meaning (drop i es)) a t) (drop_of_length-le fs h)
no-more-takes fs es i a t (inr h) = ap (λ xs. all_take_in (map parameter (drop i fs)) (map meaning xs) a t) (drop_of_length-le es h) ∙ nothing-takes (map parameter (drop i fs)) a t
