-- A selector and values at the width of the widest.
use Rattle.std.proofs.Common.{◌≡◌, ℕ, Bool, true, false, cond, List, [], ◌∷◌, ◌++◌, flat_map, Option, Some, None, refl, sym, ap, ◌∙◌, subst}
use Rattle.std.specs.Prelude.{Result, Ok, Err, nat_lt, slice_get}
use Rattle.expr_type.specs.declared.halt.Halt.{Halt}
use Rattle.expr_type.specs.declared.halt.Halt.TheVariants as H
use Rattle.expr_type.specs.declared.operand.Valued.{Valued}
use Rattle.expr_type.specs.Answers.{Break, Gives, HaltsBy, first_break, reason}
use Rattle.expr_type.specs.Breaks.{Breaks}
use Rattle.expr_type.specs.Names.{Context, Source, position}
use Rattle.expr_type.specs.Operands.{sized, too_wide}
use Rattle.expr_type.specs.Statements.{selector_at, values_at, wide_in}
use Rattle.expr_type.specs.Typings.{Checked, and_at, at_all, unless, where_whole}
use Rattle.stmt_types.specs.Cases.{break_of, first_in, first_operator, found_by, or_first}

-- the first of some operators
pub head-of : (ats : List ℕ) → slice_get ats 0 ≡ first_operator ats
head-of [] = refl
head-of (at ∷ ats) = refl

pub ruleset heads = (head-of)

-- what isn't whole shows its break
pub halts : (k : Source) (h : Halt) → HaltsBy h (Some (first_break (break_of k h)))
halts k H.Memory = tt
halts k (H.Breaks at rule) = refl
halts k H.Quiet = refl

-- operators at which a rule is broken: none, or the first of them
none-there : {A : Type 0} (i r : ℕ) (ats : List ℕ) (a : A) → None ≡ first_operator ats → unless (at_all i r ats) a ≡ Ok a
none-there i r [] a h = refl
none-there i r (at ∷ ats) a h = absurd (cc)

one-there : {A : Type 0} (i r at : ℕ) (ats : List ℕ) (a : A) → Some at ≡ first_operator ats → reason (unless (at_all i r ats) a) ≡ Some (Some (record { at = at; rule = r }))
one-there i r at [] a h = absurd (cc)
one-there {A = A} i r at (b ∷ ats) a h = by (at_all i r ats) ∙ ap (λ (n : ℕ). Some (Some (record { at = n; rule = r }))) (let e : b ≡ at = cc in e)
  where
    by : (o : Option Breaks) → reason (unless (and_at (record { instance = i; at = b }) r o) a) ≡ Some (Some (record { at = b; rule = r }))
    by None = refl
    by (Some x) = refl

narrow-ats : (w : ℕ) (ats : List ℕ) → nat_lt 128 w ≡ false → too_wide w ats ≡ []
narrow-ats w [] h = refl
narrow-ats w (at ∷ ats) h = ap (λ (b : Bool). cond b (at ∷ ats) []) h

wide-ats : (w : ℕ) (ats : List ℕ) → nat_lt 128 w ≡ true → too_wide w ats ≡ ats
wide-ats w [] h = refl
wide-ats w (at ∷ ats) h = ap (λ (b : Bool). cond b (at ∷ ats) []) h

-- the operators of some values
narrow-in : (w : ℕ) (vs : List Valued) → nat_lt 128 w ≡ false → wide_in w vs ≡ []
narrow-in w [] h = refl
narrow-in w (v ∷ vs) h = ap (λ (ats : List ℕ). ats ++ wide_in w vs) (narrow-ats w v.arithmetic h) ∙ narrow-in w vs h

first-append : (xs ys : List ℕ) → first_operator (xs ++ ys) ≡ or_first (first_operator xs) (first_operator ys)
first-append [] ys = refl
first-append (x ∷ xs) ys = refl

wide-first : (w : ℕ) (vs : List Valued) → nat_lt 128 w ≡ true → first_operator (wide_in w vs) ≡ first_in vs
wide-first w [] h = refl
wide-first w (v ∷ vs) h =
    first-append (too_wide w v.arithmetic) (wide_in w vs)
    ∙ ap (λ (ats : List ℕ). or_first (first_operator ats) (first_operator (wide_in w vs))) (wide-ats w v.arithmetic h)
    ∙ ap (or_first (first_operator v.arithmetic)) (wide-first w vs h)

-- a selector
pub selector-stops : (h : Halt) (k : Context) (w : ℕ) → Gives {A = Valued} (Err h) (selector_at k w (found_by k.source (Err h)))
selector-stops h k w = halts k.source h

pub selector-narrow : (v : Valued) (k : Context) (w : ℕ) → nat_lt 128 w ≡ false → selector_at k w (Ok v) ≡ Ok v
selector-narrow v k w h = ap (λ (ats : List ℕ). unless (at_all k.source.instance 502 ats) v) (narrow-ats w v.arithmetic h)

pub selector-fine : (v : Valued) (k : Context) (w : ℕ) → nat_lt 128 w ≡ true → None ≡ first_operator v.arithmetic → selector_at k w (Ok v) ≡ Ok v
selector-fine v k w h n =
    ap (λ (ats : List ℕ). unless (at_all k.source.instance 502 ats) v) (wide-ats w v.arithmetic h) ∙ none-there k.source.instance 502 v.arithmetic v n

pub selector-breaks : (v : Valued) (at : ℕ) (k : Context) (w : ℕ) → nat_lt 128 w ≡ true → Some at ≡ first_operator v.arithmetic
    → Gives {A = Valued} (Err (H.Breaks at 502)) (selector_at k w (Ok v))
selector-breaks v at k w h n =
    ap (λ (ats : List ℕ). reason (unless (at_all k.source.instance 502 ats) v)) (wide-ats w v.arithmetic h) ∙ one-there k.source.instance 502 at v.arithmetic v n

-- values
pub values-stop : (h : Halt) (k : Context) (w : ℕ) → Gives {A = List Valued} (Err h) (values_at k w (found_by k.source (Err h)))
values-stop h k w = halts k.source h

pub values-narrow : (vs : List Valued) (k : Context) (w : ℕ) → nat_lt 128 w ≡ false → values_at k w (Ok vs) ≡ Ok vs
values-narrow vs k w h = ap (λ (ats : List ℕ). unless (at_all k.source.instance 502 ats) vs) (narrow-in w vs h)

pub values-fine : (vs : List Valued) (k : Context) (w : ℕ) → nat_lt 128 w ≡ true → None ≡ first_in vs → values_at k w (Ok vs) ≡ Ok vs
values-fine vs k w h n = none-there k.source.instance 502 (wide_in w vs) vs (n ∙ sym (wide-first w vs h))

pub values-break : (vs : List Valued) (at : ℕ) (k : Context) (w : ℕ) → nat_lt 128 w ≡ true → Some at ≡ first_in vs
    → Gives {A = List Valued} (Err (H.Breaks at 502)) (values_at k w (Ok vs))
values-break vs at k w h n = one-there k.source.instance 502 at (wide_in w vs) vs (n ∙ sym (wide-first w vs h))

pub ruleset widths = (selector-stops, selector-narrow, selector-fine, selector-breaks, values-stop, values-narrow, values-fine, values-break)
