-- What selects and calls name.
use Rattle.std.proofs.Common.{◌≡◌, ◌⊎◌, inl, inr, ℕ, Bool, true, false, ◌==◌, cond, ℤ, List, [], ◌∷◌, ◌++◌, append-nil, Option, ap, sym, ◌∙◌, subst}
use Rattle.row_machine.specs.Valuation.{Member}
use Rattle.v_tree.specs.Names.{Name}
use Rattle.v_tree.specs.declared.expressions.VExpr.{VExpr}
use Rattle.v_tree.specs.declared.expressions.VExtent.{VExtent}
use Rattle.v_meaning.specs.Scopes.{Scope, named}
use Rattle.v_meaning.specs.Values as T
use Rattle.lowering_laws.specs.Terms as terms
use Rattle.lowering_laws.specs.Terms.{braced}
use Rattle.path_flatten.specs.declared.readings.Root.{Root}
use Rattle.path_flatten.specs.declared.readings.Root.TheVariants as R
use Rattle.path_flatten.specs.Naming.{SameNumbers, root_names, NamesRoot, NamesLike, RootNames}
use Rattle.path_flatten.specs.Selecting.{lost_bit, times}

member-left : (xs ys : List ℕ) (z : ℕ) → Member xs z → Member (xs ++ ys) z
member-left [] ys z h = absurd h
member-left (x ∷ xs) ys z (inl e) = inl e
member-left (x ∷ xs) ys z (inr h) = inr (member-left xs ys z h)

member-right : (xs ys : List ℕ) (z : ℕ) → Member ys z → Member (xs ++ ys) z
member-right [] ys z h = h
member-right (x ∷ xs) ys z h = inr (member-right xs ys z h)

member-split : (xs ys : List ℕ) (z : ℕ) → Member (xs ++ ys) z → Member xs z ⊎ Member ys z
member-split [] ys z h = inr h
member-split (x ∷ xs) ys z (inl e) = inl (inl e)
member-split (x ∷ xs) ys z (inr h) = elim (member-split xs ys z h) [ inl k ↦ inl (inr k) | inr k ↦ inr k ]

-- lists of the same numbers
pub same-itself : (xs : List ℕ) → SameNumbers xs xs
same-itself xs = record { there = λ q h. h; back = λ q h. h }

pub same-by : (xs ys : List ℕ) → xs ≡ ys → SameNumbers xs ys
same-by xs ys is = subst (SameNumbers xs) is (same-itself xs)

pub same-turned : (xs ys : List ℕ) → SameNumbers xs ys → SameNumbers ys xs
same-turned xs ys h = record { there = h.back; back = h.there }

pub same-then : (xs ys zs : List ℕ) → SameNumbers xs ys → SameNumbers ys zs → SameNumbers xs zs
same-then xs ys zs h g = record { there = λ q k. g.there q (h.there q k); back = λ q k. h.back q (g.back q k) }

joined-there : (as_ bs cs ds : List ℕ) (q : ℕ) → SameNumbers as_ bs → SameNumbers cs ds → Member as_ q ⊎ Member cs q → Member (bs ++ ds) q
joined-there as_ bs cs ds q h g (inl k) = member-left bs ds q (h.there q k)
joined-there as_ bs cs ds q h g (inr k) = member-right bs ds q (g.there q k)

pub same-joined : (as_ bs cs ds : List ℕ) → SameNumbers as_ bs → SameNumbers cs ds → SameNumbers (as_ ++ cs) (bs ++ ds)
same-joined as_ bs cs ds h g = record {
  there = λ q k. joined-there as_ bs cs ds q h g (member-split as_ cs q k);
  back = λ q k. joined-there bs as_ ds cs q (same-turned as_ bs h) (same-turned cs ds g) (member-split bs ds q k);
}

twice-back : (as_ bs cs : List ℕ) (q : ℕ) → SameNumbers as_ bs → SameNumbers as_ cs → Member bs q ⊎ Member cs q → Member as_ q
twice-back as_ bs cs q h g (inl k) = h.back q k
twice-back as_ bs cs q h g (inr k) = g.back q k

-- what stands twice
pub same-twice : (as_ bs cs : List ℕ) → SameNumbers as_ bs → SameNumbers as_ cs → SameNumbers as_ (bs ++ cs)
same-twice as_ bs cs h g = record {
  there = λ q k. member-left bs cs q (h.there q k);
  back = λ q k. twice-back as_ bs cs q h g (member-split bs cs q k);
}

-- expressions that name the same
pub like-itself : (m : T.Meaning) → NamesLike m m
like-itself m sc = same-itself (m.names sc)

pub like-then : (m n k : T.Meaning) → NamesLike m n → NamesLike n k → NamesLike m k
like-then m n k h g sc = same-then (m.names sc) (n.names sc) (k.names sc) (h sc) (g sc)

pub like-by : (m n : T.Meaning) → ((sc : Scope) → n.names sc ≡ m.names sc) → NamesLike m n
like-by m n is sc = same-by (m.names sc) (n.names sc) (sym (is sc))

pub root-like : (root : Root) (m n : T.Meaning) → NamesRoot root m → NamesLike m n → NamesRoot root n
root-like root m n h g sc = same-then (root_names root sc) (m.names sc) (n.names sc) (h sc) (g sc)

pub root-of-name : (root : Root) (name : Name) (m : T.Meaning) → root ≡ R.Name name → NamesRoot (R.Name name) m → NamesRoot root m
root-of-name root name m is h = subst (λ r. NamesRoot r m) (sym is) h

pub root-of-value : (root : Root) (x : VExpr) (m : T.Meaning) → root ≡ R.Value x → NamesLike (T.meaning x) m → NamesRoot root m
root-of-value root x m is h = subst (λ r. NamesRoot r m) (sym is) h

-- names with selects
bare-named : (name : Name) → NamesRoot (R.Name name) (T.reference name [])
unfolding T.reference
bare-named name sc = same-itself ((named sc.names name).number ∷ [])

pub name-bare : (name : Name) (m : T.Meaning) → m ≡ T.reference name [] → NamesRoot (R.Name name) m
name-bare name m is = subst (NamesRoot (R.Name name)) (sym is) (bare-named name)

decimal-named : (name : Name) (k : ℕ) (extent : Option VExtent) → NamesRoot (R.Name name) (T.reference name (T.decimal_base k extent ∷ []))
unfolding T.reference
decimal-named name k extent sc = same-itself ((named sc.names name).number ∷ [])

pub name-decimal : (name : Name) (k : ℕ) (extent : Option VExtent) (m : T.Meaning) → m ≡ T.reference name (T.decimal_base k extent ∷ []) → NamesRoot (R.Name name) m
name-decimal name k extent m is = subst (NamesRoot (R.Name name)) (sym is) (decimal-named name k extent)

-- calls of helpers
bound-call : (name : Name) (m : T.Meaning) (w : ℕ) (z : ℤ) (sc : Scope) → (T.call name (m ∷ terms.bound w z ∷ [])).names sc ≡ m.names sc
unfolding T.call T.signing T.literal
bound-call name m w z sc = append-nil (m.names sc)

pub like-bound-call : (name : Name) (m : T.Meaning) (w : ℕ) (z : ℤ) (r : T.Meaning) → r ≡ T.call name (m ∷ terms.bound w z ∷ []) → NamesLike m r
like-bound-call name m w z r is = subst (NamesLike m) (sym is) (like-by m (T.call name (m ∷ terms.bound w z ∷ [])) (bound-call name m w z))

two-call : (name : Name) (m o : T.Meaning) (sc : Scope) → (T.call name (m ∷ o ∷ [])).names sc ≡ m.names sc ++ o.names sc
unfolding T.call
two-call name m o sc = ap (λ l. m.names sc ++ l) (append-nil (o.names sc))

-- what a call with two arguments names
pub call-both : (name : Name) (m o r : T.Meaning) → r ≡ T.call name (m ∷ o ∷ []) → (sc : Scope) → SameNumbers (m.names sc ++ o.names sc) (r.names sc)
call-both name m o r is sc =
    subst (λ (y : T.Meaning). SameNumbers (m.names sc ++ o.names sc) (y.names sc)) (sym is)
    (same-by (m.names sc ++ o.names sc) ((T.call name (m ∷ o ∷ [])).names sc) (sym (two-call name m o sc)))

one-call : (name : Name) (m : T.Meaning) (sc : Scope) → (T.call name (m ∷ [])).names sc ≡ m.names sc
unfolding T.call
one-call name m sc = append-nil (m.names sc)

pub like-call : (name : Name) (m r : T.Meaning) → r ≡ T.call name (m ∷ []) → NamesLike m r
like-call name m r is = subst (NamesLike m) (sym is) (like-by m (T.call name (m ∷ [])) (one-call name m))

-- braces, signs and repetitions
braced-named : (m : T.Meaning) (sc : Scope) → (braced m).names sc ≡ m.names sc
unfolding T.concatenation
braced-named m sc = append-nil (m.names sc)

pub like-braced : (m : T.Meaning) → NamesLike m (braced m)
like-braced m = like-by m (braced m) (braced-named m)

signing-named : (s : Bool) (m : T.Meaning) (sc : Scope) → (T.signing s m).names sc ≡ m.names sc
unfolding T.signing
signing-named s m sc = append-nil (m.names sc)

pub like-signing : (s : Bool) (m : T.Meaning) → NamesLike m (T.signing s m)
like-signing s m = like-by m (T.signing s m) (signing-named s m)

repeated-named : (n : ℕ) (m : T.Meaning) (sc : Scope) → (T.repetition n (m ∷ [])).names sc ≡ m.names sc
unfolding T.repetition
repeated-named n m sc = append-nil (m.names sc)

times-by : (n : ℕ) (m : T.Meaning) (b : Bool) → NamesLike m (cond b m (T.repetition n (m ∷ [])))
times-by n m true = like-itself m
times-by n m false = like-by m (T.repetition n (m ∷ [])) (repeated-named n m)

pub like-times : (n : ℕ) (m : T.Meaning) → NamesLike m (times n m)
like-times n m = times-by n m (n == 1)

-- a bit that is lost
lost-named : (m : T.Meaning) (sc : Scope) → (lost_bit m).names sc ≡ m.names sc
unfolding T.concatenation T.binary T.reduce T.literal
lost-named m sc = append-nil ((m.names sc ++ []) ++ []) ∙ append-nil (m.names sc ++ []) ∙ append-nil (m.names sc)

pub like-lost : (m : T.Meaning) → NamesLike m (lost_bit m)
like-lost m = like-by m (lost_bit m) (lost-named m)

-- an expression in braces as a root
pub root-braced : (m : T.Meaning) (x : VExpr) (root : Root) → root ≡ R.Value x → T.meaning x ≡ braced m → RootNames m root
root-braced m x root is braces =
    subst (RootNames m) (sym is) (subst (NamesLike m) (sym braces) (like-braced m))

pub lost-of : (m r : T.Meaning) → r ≡ lost_bit m → NamesLike m r
lost-of m r is = subst (NamesLike m) (sym is) (like-lost m)

pub times-of : (n : ℕ) (m r : T.Meaning) → r ≡ times n m → NamesLike m r
times-of n m r is = subst (NamesLike m) (sym is) (like-times n m)
