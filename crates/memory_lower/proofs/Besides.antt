-- What names a word, and what an expression apart names besides.
use Rattle.std.proofs.Common.{◌≡◌, ℕ, List, [], ◌∷◌, ◌++◌, Option, Some, None, Result, Ok, Err, IfOk, refl, ap, sym, ◌∙◌, subst, append_assoc, append-nil}
use Rattle.std.specs.declared.alloc.AllocError.{AllocError}
use Rattle.b4_core.specs.declared.bit.Bit4.TheVariants.{Zero}
use Rattle.v_tree.specs.declared.expressions.VExpr.{VExpr}
use Rattle.v_meaning.specs.Scopes.{Scope}
use Rattle.v_meaning.specs.Values as T
use Rattle.path_flatten.specs.declared.ranks.Rank.{Rank}
use Rattle.path_flatten.specs.Guards.{guard_meaning}
use Rattle.path_flatten.specs.Naming.{SameNumbers}
use Rattle.target_flatten.specs.Naming.{guard_names, rank_names}
use Rattle.target_flatten.proofs.Naming.{same-middle}
use Rattle.target_walk.specs.Naming.{apart_names}
use Rattle.memory_targets.specs.declared.words.Word.{Word}
use Rattle.memory_targets.specs.declared.words.Word.TheVariants as W
use Rattle.memory_lower.specs.Named.{NamesApart, NamesGuard, NamesRank, NamesWith}

zero-names : (sc : Scope) → (T.literal (Zero ∷ [])).names sc ≡ []
unfolding T.literal
zero-names sc = refl

both-named : (a b : T.Meaning) (sc : Scope) → (T.both a b).names sc ≡ a.names sc ++ b.names sc
unfolding T.both
both-named a b sc = ap (λ l. a.names sc ++ l) (append-nil (b.names sc))

is-both : (m a b : T.Meaning) → m ≡ T.both a b → (sc : Scope) → m.names sc ≡ a.names sc ++ b.names sc
is-both m a b is sc = ap (λ (x : T.Meaning). x.names sc) is ∙ both-named a b sc

-- a condition that never holds names nothing
pub none-named : (named : Option VExpr) (r : Result VExpr AllocError) → named ≡ None → IfOk r (λ m. T.meaning m ≡ T.literal (Zero ∷ [])) → IfOk r (λ m. NamesApart named (T.meaning m))
none-named named (Ok m) none is = λ sc. ap (λ (x : T.Meaning). x.names sc) is ∙ zero-names sc ∙ ap (λ o. apart_names o sc) (sym none)
none-named named (Err x) none is = tt

-- a guard besides, and a number
pub guard-besides : (e : T.Meaning) (guard : Option VExpr) (g : VExpr) (r : Result VExpr AllocError) → guard ≡ Some g → IfOk r (λ m. T.meaning m ≡ T.both e (T.meaning g)) → IfOk r (λ m. NamesGuard e guard (T.meaning m))
guard-besides e guard g (Ok m) some is = λ sc. is-both (T.meaning m) e (T.meaning g) is sc ∙ ap (λ o. e.names sc ++ guard_names (guard_meaning o) sc) (sym some)
guard-besides e guard g (Err x) some is = tt

pub rank-besides : (e g : T.Meaning) (rank : Rank) (r : Result VExpr AllocError) → NamesGuard e rank.guard g → IfOk r (λ m. T.meaning m ≡ T.both g (T.meaning rank.rank)) → IfOk r (λ m. NamesRank e rank (T.meaning m))
rank-besides e g rank (Ok m) guard is =
    λ sc.
    is-both (T.meaning m) g (T.meaning rank.rank) is sc ∙ ap (λ l. l ++ (T.meaning rank.rank).names sc) (guard sc)
    ∙ append_assoc (e.names sc) (guard_names (guard_meaning rank.guard) sc) ((T.meaning rank.rank).names sc)
rank-besides e g rank (Err x) guard is = tt

-- lists in the other order
swapped : (xs ys : List ℕ) → SameNumbers (xs ++ ys) (ys ++ xs)
swapped xs ys = subst (λ l. SameNumbers (xs ++ l) (ys ++ xs)) (append-nil ys) (subst (λ l. SameNumbers (xs ++ (ys ++ [])) (ys ++ l)) (append-nil xs) (same-middle [] xs ys []))

-- a word by an expression
pub lowered-with : (w : Word) (rank : Rank) (named : Option VExpr) (e m : T.Meaning) (made : VExpr) → w ≡ W.Lowered rank → T.meaning made ≡ m → NamesApart named e → NamesRank e rank m → NamesWith w named (Some made)
lowered-with w rank named e m made is meant apart with =
    subst (λ y. NamesWith y named (Some made)) (sym is)
    (λ sc.
    subst (λ l. SameNumbers (rank_names rank sc ++ apart_names named sc) l) (sym (ap (λ (x : T.Meaning). x.names sc) meant ∙ with sc ∙ ap (λ l. l ++ rank_names rank sc) (apart sc)))
    (swapped (rank_names rank sc) (apart_names named sc)))
