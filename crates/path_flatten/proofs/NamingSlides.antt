-- What selects from an offset on name.
use Rattle.std.proofs.Common.{◌≡◌, ℕ, Bool, true, false, ℤ, [], ◌∷◌, ◌++◌, append-nil, ap, sym, ◌∙◌, subst}
use Rattle.b4_core.specs.declared.bit.Bit4.TheVariants.{Zero}
use Rattle.v_tree.specs.Names.{Name}
use Rattle.v_tree.specs.declared.expressions.VExpr.{VExpr}
use Rattle.v_meaning.specs.Scopes.{Scope, named}
use Rattle.v_meaning.specs.Values as T
use Rattle.v_meaning.specs.Values.{meaning}
use Rattle.lowering_laws.specs.Terms as terms
use Rattle.path_flatten.specs.declared.offsets.Index.{Index}
use Rattle.path_flatten.specs.declared.offsets.Offset.{Offset}
use Rattle.path_flatten.specs.declared.offsets.Offset.TheVariants as O
use Rattle.path_flatten.specs.declared.readings.Root.{Root}
use Rattle.path_flatten.specs.declared.readings.Root.TheVariants as R
use Rattle.path_flatten.specs.Distances.{distance_term}
use Rattle.path_flatten.specs.Naming.{SameNumbers, root_names, NamesRoot, NamesLike, RootNamesBoth}
use Rattle.path_flatten.specs.Sliding.{offset_names, NamesOffset, NamesIndex, NamesSlide}
use Rattle.path_flatten.proofs.Naming.{same-itself, same-by, same-then, same-joined, like-itself, like-by, call-both}

-- numbers that name nothing beside an expression
zero-named : (m : T.Meaning) (sc : Scope) → (T.concatenation (T.literal (Zero ∷ []) ∷ m ∷ [])).names sc ≡ m.names sc
unfolding T.concatenation T.literal
zero-named m sc = append-nil (m.names sc)

pub like-zero : (m r : T.Meaning) → r ≡ T.concatenation (T.literal (Zero ∷ []) ∷ m ∷ []) → NamesLike m r
like-zero m r is = subst (NamesLike m) (sym is) (like-by m (T.concatenation (T.literal (Zero ∷ []) ∷ m ∷ [])) (zero-named m))

distance-named : (b : Bool) (m : T.Meaning) (w : ℕ) (n : ℤ) (sc : Scope) → (distance_term b (T.signing true m) w n).names sc ≡ m.names sc
unfolding T.concatenation T.binary T.signing T.literal
distance-named true m w n sc = append-nil ((m.names sc ++ []) ++ []) ∙ append-nil (m.names sc ++ []) ∙ append-nil (m.names sc)
distance-named false m w n sc = append-nil ((m.names sc ++ []) ++ []) ∙ append-nil (m.names sc ++ []) ∙ append-nil (m.names sc)

pub like-distance : (b : Bool) (m : T.Meaning) (w : ℕ) (n : ℤ) (r : T.Meaning) → r ≡ distance_term b (T.signing true m) w n → NamesLike m r
like-distance b m w n r is = subst (NamesLike m) (sym is) (like-by m (distance_term b (T.signing true m) w n) (distance-named b m w n))

scaled-named : (m : T.Meaning) (item w : ℕ) (sc : Scope) → (terms.scaled m item w).names sc ≡ m.names sc
unfolding T.binary T.signing T.literal
scaled-named m item w sc = append-nil (m.names sc ++ []) ∙ append-nil (m.names sc)

pub like-scaled : (m : T.Meaning) (item w : ℕ) (r : T.Meaning) → r ≡ terms.scaled m item w → NamesLike m r
like-scaled m item w r is = subst (NamesLike m) (sym is) (like-by m (terms.scaled m item w) (scaled-named m item w))

-- offsets
pub index-offset : (x : Index) (o : Offset) (m : T.Meaning) → o ≡ O.Index x → NamesLike (meaning x.expr) m → NamesOffset o m
index-offset x o m is h = subst (λ y. NamesOffset y m) (sym is) h

pub sum-offset : (e : VExpr) (bits : ℕ) (o : Offset) (m : T.Meaning) → o ≡ O.Sum e bits → m ≡ meaning e → NamesOffset o m
sum-offset e bits o m is same = subst (λ y. NamesOffset y m) (sym is) (subst (NamesLike (meaning e)) (sym same) (like-itself (meaning e)))

pub offset-index : (x : Index) (o : Offset) → o ≡ O.Index x → NamesIndex x o
offset-index x o is = subst (NamesIndex x) (sym is) (like-itself (meaning x.expr))

pub offset-sum : (x : Index) (e : VExpr) (bits : ℕ) (o : Offset) → o ≡ O.Sum e bits → NamesLike (meaning x.expr) (meaning e) → NamesIndex x o
offset-sum x e bits o is h = subst (NamesIndex x) (sym is) h

-- `name[offset +: n]`
slide-named : (name : Name) (b : T.Meaning) (n : ℕ) (sc : Scope) → (T.reference name (terms.slide b n ∷ [])).names sc ≡ ((named sc.names name).number ∷ []) ++ b.names sc
unfolding T.reference
slide-named name b n sc = ap (λ l. (named sc.names name).number ∷ l) (append-nil (b.names sc))

pub name-slide : (root : Root) (name : Name) (o : Offset) (b : T.Meaning) (n : ℕ) (m : T.Meaning) → root ≡ R.Name name → NamesOffset o b → m ≡ T.reference name (terms.slide b n ∷ []) → NamesSlide root o m
name-slide root name o b n m root_is offset is sc =
    let number = (named sc.names name).number ∷ [] in
    subst (λ r. SameNumbers (root_names r sc ++ offset_names o sc) (m.names sc)) (sym root_is)
    (subst (λ (y : T.Meaning). SameNumbers (number ++ offset_names o sc) (y.names sc)) (sym is)
    (same-then (number ++ offset_names o sc) (number ++ b.names sc) ((T.reference name (terms.slide b n ∷ [])).names sc)
    (same-joined number number (offset_names o sc) (b.names sc) (same-itself number) (offset sc))
    (same-by (number ++ b.names sc) ((T.reference name (terms.slide b n ∷ [])).names sc) (sym (slide-named name b n sc)))))

-- a call with all bits
pub call-slide : (root : Root) (o : Offset) (f : Name) (all x m : T.Meaning) → NamesRoot root all → NamesOffset o x → m ≡ T.call f (all ∷ x ∷ []) → NamesSlide root o m
call-slide root o f all x m whole offset is sc =
    same-then (root_names root sc ++ offset_names o sc) (all.names sc ++ x.names sc) (m.names sc)
    (same-joined (root_names root sc) (all.names sc) (offset_names o sc) (x.names sc) (whole sc) (offset sc)) (call-both f all x m is sc)

pub slide-root : (root other : Root) (o : Offset) (m : T.Meaning) → root ≡ other → NamesSlide other o m → NamesSlide root o m
slide-root root other o m is h = subst (λ r. NamesSlide r o m) (sym is) h

-- a new root
pub step-names : (old root : Root) (x : Index) (o : Offset) (value : VExpr) → root ≡ R.Value value → NamesIndex x o → NamesSlide old o (meaning value) → RootNamesBoth old (meaning x.expr) root
step-names old root x o value is index slide sc =
    let k = (meaning value).names sc in
    subst (λ r. SameNumbers (root_names old sc ++ (meaning x.expr).names sc) (root_names r sc)) (sym is)
    (same-then (root_names old sc ++ (meaning x.expr).names sc) (root_names old sc ++ offset_names o sc) k
    (same-joined (root_names old sc) (root_names old sc) ((meaning x.expr).names sc) (offset_names o sc) (same-itself (root_names old sc)) (index sc)) (slide sc))
