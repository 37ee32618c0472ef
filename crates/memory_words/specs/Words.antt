-- The word of an index of an array (IEEE 1364-2005 clause 4.9).
use Rattle.std.specs.Prelude.{◌≡◌, ◌⊎◌, ℕ, suc, ◌<◌, ◌≤◌, ◌^◌, ℤ, pos, ◌+ℤ◌, ◌-ℤ◌, ◌<ℤ◌, int_le, true, false, Bool, cond, Option, Some, None}
use Rattle.b4_core.specs.Vectors.{known, num}
use Rattle.row_machine.specs.Valuation.{Valuation}
use Rattle.sv_types.specs.declared.types.SvType.{SvType}
use Rattle.sv_types.specs.Layouts.{Layout, layout, count_of}
use Rattle.sv_types.specs.Surroundings.{Around}
use Rattle.sv_types.specs.Meanings as S
use Rattle.sv_types.specs.Paths as P
use Rattle.v_tree.specs.declared.expressions.VExpr.{VExpr}
use Rattle.v_meaning.specs.Scopes.{Scope}
use Rattle.v_meaning.specs.Values as T
use Rattle.v_meaning.specs.Values.{meaning}
use Rattle.eval_parts.specs.declared.layouts.Bounds.{Bounds}
use Rattle.lowering_laws.specs.Placed.{holds, NoRank}
use Rattle.lowering_laws.specs.Words.{lower, HasWord, BehindAll, IsWord}
use Rattle.path_flatten.specs.declared.offsets.Index.{Index}
use Rattle.path_flatten.specs.declared.ranks.Rank.{Rank}
use Rattle.path_flatten.specs.Guards.{guard_meaning}
use Rattle.path_flatten.specs.Naming.{SameNumbers}
use Rattle.path_flatten.specs.Sliding.{IsIndexOf}
use Rattle.memory_words.specs.Names.{rank_names}

-- the smaller bound and the larger one
abbrev pub lowest : Bounds → ℤ
lowest b = cond (int_le b.right b.left) b.right b.left

abbrev pub highest : Bounds → ℤ
highest b = cond (int_le b.right b.left) b.left b.right

-- A target expression is the number of the word of an index where a guard holds and it is known, and each such number is one of a
-- word; elsewhere no element has the index.
pub record IsExactWord (of : Layout) (i : Option ℤ) (guard : Option T.Meaning) (r : T.Meaning) (sc : Scope) (v : Valuation) : Type 0 where
  pub unsigned : r.signed ≡ false
  pub yes : holds guard sc v ≡ true → known (T.alone r sc v) ≡ true → HasWord of i (num (T.alone r sc v))
  pub no : holds guard sc v ≡ false → NoRank of i
  pub lost : holds guard sc v ≡ true → known (T.alone r sc v) ≡ false → NoRank of i

-- a guard and a number are those of the word of each index that a lowered one stands for, of what has a type, of what has bounds,
-- and of what has words from index 0 to a last one
abbrev pub FindsWord : Index → SvType → Rank → Type 0
FindsWord x t r = (i : S.Meaning) (a : Around) (sc : Scope) (v : Valuation) → IsIndexOf x i a sc v → IsExactWord (layout t) (P.index_of i a) (guard_meaning r.guard) (meaning r.rank) sc v

abbrev pub FindsWordBetween : Index → Bounds → Rank → Type 0
FindsWordBetween x b r = (of : Layout) (i : S.Meaning) (a : Around) (sc : Scope) (v : Valuation) → of.left ≡ b.left → of.right ≡ b.right → IsIndexOf x i a sc v
    → IsExactWord of (P.index_of i a) (guard_meaning r.guard) (meaning r.rank) sc v

abbrev pub FindsWordUpTo : Index → ℕ → Rank → Type 0
FindsWordUpTo x last r = (of : Layout) (i : S.Meaning) (a : Around) (sc : Scope) (v : Valuation) → lower of ≡ pos 0 → count_of of.left of.right ≡ suc last → IsIndexOf x i a sc v
    → IsExactWord of (P.index_of i a) (guard_meaning r.guard) (meaning r.rank) sc v

-- they name what the index does
abbrev pub NamesWord : Index → Rank → Type 0
NamesWord x r = (sc : Scope) → SameNumbers ((meaning x.expr).names sc) (rank_names r sc)

-- a number without a guard is that of the word of each such index, and that of no word where no element has the index; so of what
-- has a type, and of what has a smaller bound
abbrev pub FindsNumber : Index → SvType → VExpr → Type 0
FindsNumber x t e = (i : S.Meaning) (a : Around) (sc : Scope) (v : Valuation) → IsIndexOf x i a sc v → IsWord (layout t) (P.index_of i a) None (meaning e) sc v

abbrev pub FindsNumberAbove : Index → ℤ → VExpr → Type 0
FindsNumberAbove x low e = (of : Layout) (i : S.Meaning) (a : Around) (sc : Scope) (v : Valuation) → lower of ≡ low → count_of of.left of.right ≤ 4194304 → IsIndexOf x i a sc v
    → IsWord of (P.index_of i a) None (meaning e) sc v

-- whether each number of so many bits is one up to a last one
abbrev pub AreUpTo : Bool → ℕ → ℕ → Type 0
AreUpTo true width last = 2 ^ width ≤ suc last
AreUpTo false width last = last < 2 ^ width

-- how far a number lies above a lowest one, if it does and no farther than a last one
abbrev pub LiesAbove : ℤ → ℤ → ℕ → Option ℕ → Type 0
LiesAbove k low last (Some x) = (k -ℤ low ≡ pos x) × (x ≤ last)
LiesAbove k low last None = (k <ℤ low) ⊎ ((low +ℤ pos last) <ℤ k)

-- a number is that of the word of an index; there is no word with this number if no element has the index
abbrev pub NumbersWord : Layout → Option ℤ → ℕ → Type 0
NumbersWord of z x = HasWord of z x ⊎ BehindAll of z x
