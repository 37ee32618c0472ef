-- Ranks of indices of what is written.
use Rattle.std.proofs.Common.{◌≡◌, ℕ, suc, ◌+◌, ◌-◌, ◌≤◌, ◌<◌, ◌^◌, Bool, true, false, ℤ, pos, ◌+ℤ◌, ◌-ℤ◌, ◌≤ℤ◌, ◌<ℤ◌, [], ◌∷◌, Option, Some, None, refl, arith, ap, sym, ◌∙◌, subst}
use Rattle.std.specs.Prelude.{int_le}
use Rattle.std.proofs.lemmas.Int.{ints}
use Rattle.b4_core.specs.declared.bit.Bit4.TheVariants.{Zero}
use Rattle.row_machine.specs.Valuation.{Valuation}
use Rattle.sv_types.specs.declared.types.SvType.{SvType}
use Rattle.sv_types.specs.Layouts.{layout, count_of}
use Rattle.sv_types.specs.Surroundings.{Around}
use Rattle.sv_types.specs.Meanings as S
use Rattle.sv_types.specs.Paths as P
use Rattle.v_meaning.specs.Scopes.{Scope}
use Rattle.v_meaning.specs.Values as T
use Rattle.v_meaning.specs.Values.{meaning}
use Rattle.lowering_laws.specs.Placed.{IsRank}
use Rattle.lowering_laws.specs.Signed.{IsIndex, FitsSigned}
use Rattle.lowering_laws.specs.Terms as terms
use Rattle.lowering_laws.proofs.AnyRank.{le-yes, le-no}
use Rattle.lowering_laws.proofs.Indices.{signed-index, unsigned-index}
use Rattle.lowering_laws.proofs.SlideTargets as L
use Rattle.path_flatten.specs.declared.offsets.Index.{Index}
use Rattle.path_flatten.specs.declared.ranks.Rank.{Rank}
use Rattle.path_flatten.specs.Distances.{distance_term}
use Rattle.path_flatten.specs.Guards.{guard_meaning}
use Rattle.path_flatten.specs.Placing.{IsRankOf, IsPlainIndex, RanksFree, RanksGuarded}
use Rattle.path_flatten.specs.Sliding.{IsIndexOf, IsSignedIndex}
use Rattle.path_flatten.proofs.Placing.{falling-index, rising-index}
use Rattle.target_laws.specs.Distances.{moved_by}
use Rattle.target_flatten.specs.Spots.{RanksNumber, RanksBetween, RanksMoved, RanksShort, IsLast}

-- an index as a signed number of more bits
wider : (i : Option ℤ) (m : T.Meaning) (w z : ℕ) (sc : Scope) (v : Valuation) → w ≤ z → IsIndex i m w sc v → IsIndex i m z sc v
wider i m w z sc v more h = (let x = h.width in let y = h.long in record { width = omega arith; long = omega arith; there = h.there; lost = h.lost })

pub signed-number : (x : Index) (m : T.Meaning) → x.signed ≡ true → m ≡ meaning x.expr → IsSignedIndex x m (x.width + 1)
signed-number x m sign is i a sc v h =
    let wide = h.width in
    subst (λ (y : T.Meaning). IsIndex (P.index_of i a) y (x.width + 1) sc v) (sym is)
    (signed-index i a (meaning x.expr) (x.width + 1) sc v h.long h.same (h.sign ∙ sign) (omega arith))

pub unsigned-number : (x : Index) (m : T.Meaning) → x.signed ≡ false → m ≡ T.concatenation (T.literal (Zero ∷ []) ∷ meaning x.expr ∷ []) → IsSignedIndex x m (x.width + 1)
unsigned-number x m sign is i a sc v h =
    let wide = h.width in
    subst (λ (y : T.Meaning). IsIndex (P.index_of i a) y (x.width + 1) sc v) (sym is)
    (unsigned-index i a (meaning x.expr) (x.width + 1) sc v h.long h.same (h.sign ∙ sign) (omega arith))

before : (w : ℕ) → 1 ≤ w → w ≡ suc (w - 1)
before w h = omega arith

-- comparisons of bounds
pub le-is : (a b : ℤ) → a ≤ℤ b → int_le a b ≡ true
le-is a b h = by (int_le a b) refl
  where
    by : (c : Bool) → int_le a b ≡ c → int_le a b ≡ true
    by true e = e
    by false e = (let more = le-no a b e in absurd (omega (arith, ints)))

pub le-not : (a b : ℤ) → b <ℤ a → int_le a b ≡ false
le-not a b h = by (int_le a b) refl
  where
    by : (c : Bool) → int_le a b ≡ c → int_le a b ≡ false
    by false e = e
    by true e = (let less = le-yes a b e in absurd (omega (arith, ints)))

-- between two bounds
pub falling-number : (m : T.Meaning) (w : ℕ) (left right : ℤ) (r : Rank) → int_le right left ≡ true
    → guard_meaning r.guard ≡ Some (terms.between (T.signing true m) w right left) → meaning r.rank ≡ distance_term true (T.signing true m) w right → RanksNumber m w left right r
falling-number m w left right r down guard rank of i sc v left_is right_is one index left_fits right_fits few =
    falling-index m w left right r guard rank of (w - 1) i sc v (before w one) left_is right_is ((λ d. int_le (right_is d) (left_is d)) ∙ down) index left_fits right_fits few

pub rising-number : (m : T.Meaning) (w : ℕ) (left right : ℤ) (r : Rank) → int_le right left ≡ false
    → guard_meaning r.guard ≡ Some (terms.between (T.signing true m) w left right) → meaning r.rank ≡ distance_term false (T.signing true m) w right → RanksNumber m w left right r
rising-number m w left right r up guard rank of i sc v left_is right_is one index left_fits right_fits few =
    rising-index m w left right r guard rank of (w - 1) i sc v (before w one) left_is right_is ((λ d. int_le (right_is d) (left_is d)) ∙ up) index left_fits right_fits few

pub index-between : (x : Index) (m : T.Meaning) (w : ℕ) (left right : ℤ) (r : Rank) → IsSignedIndex x m (x.width + 1) → RanksNumber m w left right r → RanksBetween x w left right r
index-between x m w left right r number ranks of i a sc v left_is right_is index room left_fits right_fits few =
    ranks of (P.index_of i a) sc v left_is right_is (omega arith) (wider (P.index_of i a) m (x.width + 1) w sc v room (number i a sc v index)) left_fits right_fits few

-- of an array `[last:0]`
plain : (x : Index) (i : S.Meaning) (a : Around) (w : ℕ) (sc : Scope) (v : Valuation) → x.signed ≡ false → x.width ≤ w → IsIndexOf x i a sc v → IsPlainIndex i a (meaning x.expr) w sc v
plain x i a w sc v unsigned room h = (let wide = h.width in record { unsigned = h.sign ∙ unsigned; narrow = omega arith; long = h.long; same = h.same })

pub free-short : (x : Index) (last : ℕ) (r : Rank) → x.signed ≡ false → 2 ^ x.width ≤ last + 1 → RanksFree (meaning x.expr) r → RanksShort x last r
free-short x last r unsigned few ranks of i a w sc v down index room =
    ranks of last i a w sc v down (plain x i a w sc v unsigned room index) (subst (λ k. 2 ^ k ≤ last + 1) index.width few)

pub guarded-short : (x : Index) (last : ℕ) (r : Rank) → x.signed ≡ false → last < 2 ^ x.width → RanksGuarded (meaning x.expr) x.width last r → RanksShort x last r
guarded-short x last r unsigned many ranks of i a w sc v down index room =
    ranks of i a w sc v down (plain x i a w sc v unsigned room index) index.width (subst (λ k. last < 2 ^ k) index.width many)

-- of a type, moved
moved-none : (z : Option ℤ) → z ≡ moved_by z (pos 0)
moved-none None = refl
moved-none (Some k) = ap Some (nothing_more k)
  where
    nothing_more : (x : ℤ) → x ≡ x +ℤ pos 0
    nothing_more x = omega (arith, ints)

pub short-moved : (x : Index) (t : SvType) (d : ℤ) (w last : ℕ) (r : Rank) (left right : ℤ) → d ≡ pos 0 → left ≡ (layout t).left → right ≡ (layout t).right → IsLast left right (Some last)
    → RanksShort x last r → RanksMoved x t d w r
short-moved x t d w last r left right none left_is right_is is ranks i a sc v index room =
    let more = room.index in
    subst (λ k. IsRankOf r (layout t) (moved_by (P.index_of i a) k) w sc v) (sym none)
    (subst (λ z. IsRankOf r (layout t) z w sc v) (moved-none (P.index_of i a))
    (ranks (layout t) i a w sc v (record { left_is = sym left_is ∙ is.0; right_is = sym right_is ∙ is.1 }) index (omega arith)))

same-moved : (z : Option ℤ) (d : ℤ) → L.moved_by z d ≡ moved_by z d
same-moved None d = refl
same-moved (Some k) d = refl

pub between-moved : (x : Index) (t : SvType) (d : ℤ) (w : ℕ) (r : Rank) (left right : ℤ) → left ≡ (layout t).left -ℤ d → right ≡ (layout t).right -ℤ d
    → RanksBetween x w left right r → RanksMoved x t d w r
between-moved x t d w r left right left_is right_is ranks i a sc v index room =
    let of = L.shifted (layout t) d in
    let count : count_of left right ≡ count_of (layout t).left (layout t).right = (λ j. count_of (left_is j) (right_is j)) ∙ L.shifted-count (layout t) d in
    let few = room.count in
    let ranked = ranks (L.shifted (layout t) d) i a sc v (sym left_is) (sym right_is) index room.index (subst (FitsSigned (w - 1)) (sym left_is) room.left) (subst (FitsSigned (w - 1)) (sym right_is) room.right) (omega arith) in (
      subst (λ z. IsRank (layout t) z (guard_meaning r.guard) (meaning r.rank) w sc v) (same-moved (P.index_of i a) d)
          (L.shifted-is-rank (layout t) d (P.index_of i a) (guard_meaning r.guard) (meaning r.rank) w sc v ranked.0),
      ranked.1,
    )
