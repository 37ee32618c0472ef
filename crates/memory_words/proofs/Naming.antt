-- What words and their readings name.
use Rattle.std.proofs.Common.{◌≡◌, ℕ, true, ℤ, List, [], ◌∷◌, ◌++◌, append-nil, Option, Some, None, refl, ap, sym, ◌∙◌, subst}
use Rattle.v_tree.specs.Names.{Name}
use Rattle.v_tree.specs.declared.expressions.VExpr.{VExpr}
use Rattle.v_meaning.specs.Scopes.{Scope, named}
use Rattle.v_meaning.specs.Values as T
use Rattle.v_meaning.specs.Values.{meaning, expression_base}
use Rattle.lowering_laws.specs.Terms as terms
use Rattle.lowering_laws.specs.Terms.{braced}
use Rattle.path_flatten.specs.declared.offsets.Index.{Index}
use Rattle.path_flatten.specs.declared.ranks.Rank.{Rank}
use Rattle.path_flatten.specs.declared.readings.Reading.{Reading}
use Rattle.path_flatten.specs.declared.readings.Root.{Root}
use Rattle.path_flatten.specs.declared.readings.Root.TheVariants as R
use Rattle.path_flatten.specs.Distances.{distance_term}
use Rattle.path_flatten.specs.Guards.{guard_meaning}
use Rattle.path_flatten.specs.Naming.{SameNumbers, NamesLike, root_names}
use Rattle.path_flatten.proofs.Naming.{same-itself, same-by, same-then, same-twice, like-braced}
use Rattle.path_flatten.proofs.NamingSlides.{like-distance}
use Rattle.memory_words.specs.Names.{guard_names, rank_names}
use Rattle.memory_words.specs.Readings.{NamesRead, NamesMemory}
use Rattle.memory_words.specs.Words.{NamesWord}

-- an index as it is
pub plain-names : (x : Index) (r : Rank) → guard_meaning r.guard ≡ None → meaning r.rank ≡ meaning x.expr → NamesWord x r
plain-names x r guard rank sc =
    let none : guard_names (guard_meaning r.guard) sc ≡ [] = ap (λ g. guard_names g sc) guard in
    let own : (meaning r.rank).names sc ≡ (meaning x.expr).names sc = ap (λ (m : T.Meaning). m.names sc) rank in
    same-by ((meaning x.expr).names sc) (rank_names r sc) (sym (λ i. none i ++ own i))

-- an index under a guard, and by numbers
guard-by : (ns : List ℕ) (g h : Option T.Meaning) (sc : Scope) → g ≡ h → SameNumbers ns (guard_names h sc) → SameNumbers ns (guard_names g sc)
guard-by ns g h sc is same = subst (λ x. SameNumbers ns (guard_names x sc)) (sym is) same

most-named : (y : T.Meaning) (w last : ℕ) (sc : Scope) → (terms.at_most y w last).names sc ≡ y.names sc
unfolding T.order T.literal
most-named y w last sc = append-nil (y.names sc)

pub guarded-rank-names : (x : Index) (w last : ℕ) (r : Rank) → guard_meaning r.guard ≡ Some (terms.at_most (meaning x.expr) w last) → meaning r.rank ≡ braced (meaning x.expr) → NamesWord x r
guarded-rank-names x w last r guard rank sc =
    same-twice ((meaning x.expr).names sc) (guard_names (guard_meaning r.guard) sc) ((meaning r.rank).names sc)
    (guard-by ((meaning x.expr).names sc) (guard_meaning r.guard) (Some (terms.at_most (meaning x.expr) w last)) sc guard
    (same-by ((meaning x.expr).names sc) ((terms.at_most (meaning x.expr) w last).names sc) (sym (most-named (meaning x.expr) w last sc))))
    (subst (λ (m : T.Meaning). SameNumbers ((meaning x.expr).names sc) (m.names sc)) (sym rank) (like-braced (meaning x.expr) sc))

between-named : (m : T.Meaning) (w : ℕ) (low high : ℤ) (sc : Scope) → (terms.between (T.signing true m) w low high).names sc ≡ m.names sc ++ m.names sc
unfolding T.both T.order T.signing T.literal
between-named m w low high sc =
    let one : (m.names sc ++ []) ++ [] ≡ m.names sc = append-nil (m.names sc ++ []) ∙ append-nil (m.names sc) in
    ap (λ (l : List ℕ). l ++ (l ++ [])) one ∙ ap (λ (l : List ℕ). m.names sc ++ l) (append-nil (m.names sc))

pub between-rank-names : (x : Index) (m : T.Meaning) (w : ℕ) (low high n : ℤ) (r : Rank) → NamesLike (meaning x.expr) m → guard_meaning r.guard ≡ Some (terms.between (T.signing true m) w low high)
    → meaning r.rank ≡ distance_term true (T.signing true m) w n → NamesWord x r
between-rank-names x m w low high n r like guard rank sc =
    same-then ((meaning x.expr).names sc) (m.names sc) (rank_names r sc) (like sc)
    (same-twice (m.names sc) (guard_names (guard_meaning r.guard) sc) ((meaning r.rank).names sc)
    (guard-by (m.names sc) (guard_meaning r.guard) (Some (terms.between (T.signing true m) w low high)) sc guard
    (same-then (m.names sc) (m.names sc ++ m.names sc) ((terms.between (T.signing true m) w low high).names sc)
    (same-twice (m.names sc) (m.names sc) (m.names sc) (same-itself (m.names sc)) (same-itself (m.names sc)))
    (same-by (m.names sc ++ m.names sc) ((terms.between (T.signing true m) w low high).names sc) (sym (between-named m w low high sc)))))
    (like-distance true m w n (meaning r.rank) rank sc))

-- an index by its number alone
pub above-names : (x : Index) (m : T.Meaning) (w : ℕ) (low : ℤ) (e : VExpr) → NamesLike (meaning x.expr) m → meaning e ≡ distance_term true (T.signing true m) w low → NamesLike (meaning x.expr) (meaning e)
above-names x m w low e like is sc = same-then ((meaning x.expr).names sc) (m.names sc) ((meaning e).names sc) (like sc) (like-distance true m w low (meaning e) is sc)

-- a reading
word-names : (memory : Name) (k : T.Meaning) (sc : Scope) → (T.reference memory (expression_base k None ∷ [])).names sc ≡ (named sc.names memory).number ∷ k.names sc
unfolding T.reference
word-names memory k sc = ap (λ l. (named sc.names memory).number ∷ l) (append-nil (k.names sc))

pub reading-names : (memory : Name) (word : VExpr) (r : Reading) (x : VExpr) → r.root ≡ R.Value x → meaning x ≡ T.reference memory (expression_base (meaning word) None ∷ []) → NamesRead memory word r
reading-names memory word r x root value sc =
    subst (λ (y : Root). SameNumbers ((named sc.names memory).number ∷ (meaning word).names sc) (root_names y sc)) (sym root)
    (same-by ((named sc.names memory).number ∷ (meaning word).names sc) ((meaning x).names sc) (sym (ap (λ (m : T.Meaning). m.names sc) value ∙ word-names memory (meaning word) sc)))

-- a word by its number
numbered-names : (memory : Name) (k : ℕ) (sc : Scope) → (T.reference memory (T.decimal_base k None ∷ [])).names sc ≡ (named sc.names memory).number ∷ []
unfolding T.reference
numbered-names memory k sc = refl

pub known-names : (memory : Name) (k : ℕ) (r : Reading) (x : VExpr) → r.root ≡ R.Value x → meaning x ≡ T.reference memory (T.decimal_base k None ∷ []) → NamesMemory memory r
known-names memory k r x root value sc =
    subst (λ (y : Root). SameNumbers ((named sc.names memory).number ∷ []) (root_names y sc)) (sym root)
    (same-by ((named sc.names memory).number ∷ []) ((meaning x).names sc) (sym (ap (λ (m : T.Meaning). m.names sc) value ∙ numbered-names memory k sc)))
