-- What a place and a rank are, and what steps give (IEEE 1800-2017 clauses 7.2.1, 7.4.5 and 11.5.1).
use Rattle.std.specs.Prelude.{◌≡◌, ℕ, suc, ◌+◌, ◌^◌, ◌<◌, ◌≤◌, ℤ, Bool, false, length, Option}
use Rattle.row_machine.specs.Valuation.{Valuation}
use Rattle.sv_types.specs.Layouts.{Layout, count_of}
use Rattle.sv_types.specs.Windows.{falls}
use Rattle.sv_types.specs.Surroundings.{Around}
use Rattle.sv_types.specs.Meanings as S
use Rattle.sv_types.specs.Paths as P
use Rattle.v_meaning.specs.Scopes.{Scope}
use Rattle.v_meaning.specs.Values as T
use Rattle.v_meaning.specs.Values.{meaning}
use Rattle.lowering_laws.specs.Images.{Names}
use Rattle.lowering_laws.specs.Placed.{IsPlaced, IsRank}
use Rattle.lowering_laws.specs.Same.{SameAlone}
use Rattle.lowering_laws.specs.Signed.{IsIndex, FitsSigned}
use Rattle.lowering_laws.specs.Steps.{IsPart, IsElement, CountsDown}
use Rattle.path_flatten.specs.declared.places.Place.{Place}
use Rattle.path_flatten.specs.declared.ranks.Rank.{Rank}
use Rattle.path_flatten.specs.Guards.{guard_meaning}

-- the place of a path in a vector of so many bits, by an offset of w bits
abbrev pub IsPlaceOf : Place → S.Meaning → Around → ℕ → ℕ → Scope → Valuation → Type 0
IsPlaceOf p e a w bits sc v = IsPlaced e a (guard_meaning p.guard) (meaning p.offset) w bits sc v

-- the rank of an index, by numbers of w bits
abbrev pub IsRankOf : Rank → Layout → Option ℤ → ℕ → Scope → Valuation → Type 0
IsRankOf r of i w sc v = IsRank of i (guard_meaning r.guard) (meaning r.rank) w sc v × (length ((meaning r.rank).value w false sc v) ≡ w)

-- the place of each path whose bits begin at a known one
abbrev pub PlacesAt : ℕ → ℕ → Place → Type 0
PlacesAt w low p = (e : S.Meaning) (a : Around) (bits : ℕ) (sc : Scope) (v : Valuation)
    → Names e a low bits → low + S.wide e ≤ bits → bits < 2 ^ w → IsPlaceOf p e a w bits sc v

-- of each part that lies so far above the bottom of the path that another place is of
abbrev pub PlacesPart : Place → ℕ → ℕ → Place → Type 0
PlacesPart old w below p = (e from : S.Meaning) (a : Around) (bits : ℕ) (sc : Scope) (v : Valuation)
    → 1 ≤ w → w ≤ 128 → bits < 2 ^ w → IsPart e from a below → IsPlaceOf old from a w bits sc v → IsPlaceOf p e a w bits sc v

-- of each element, of so many bits, with an index of this rank
abbrev pub PlacesElement : Place → Rank → ℕ → ℕ → Place → Type 0
PlacesElement old r w item p = (e from : S.Meaning) (a : Around) (z : Option ℤ) (bits : ℕ) (sc : Scope) (v : Valuation)
    → 1 ≤ w → w ≤ 128 → bits < 2 ^ w → item ≡ length from.of.element.two_state → IsElement e from a z
    → IsPlaceOf old from a w bits sc v → IsRankOf r from.of z w sc v → IsPlaceOf p e a w bits sc v

-- an unsigned index that the target expression stands for, of at most w bits
pub record IsPlainIndex (i : S.Meaning) (a : Around) (y : T.Meaning) (w : ℕ) (sc : Scope) (v : Valuation) : Type 0 where
  pub unsigned : S.signed i ≡ false
  pub narrow : S.wide i ≤ w
  pub long : length (S.alone i a) ≡ S.wide i
  pub same : SameAlone i a y sc v

-- The rank of such an index of an array `[last:0]`: of one that has too few bits to pass the last element, and of one that has
-- enough.
abbrev pub RanksFree : T.Meaning → Rank → Type 0
RanksFree y r = (of : Layout) (last : ℕ) (i : S.Meaning) (a : Around) (w : ℕ) (sc : Scope) (v : Valuation)
    → CountsDown of last → IsPlainIndex i a y w sc v → 2 ^ S.wide i ≤ last + 1 → IsRankOf r of (P.index_of i a) w sc v

abbrev pub RanksGuarded : T.Meaning → ℕ → ℕ → Rank → Type 0
RanksGuarded y width last r = (of : Layout) (i : S.Meaning) (a : Around) (w : ℕ) (sc : Scope) (v : Valuation)
    → CountsDown of last → IsPlainIndex i a y w sc v → width ≡ S.wide i → last < 2 ^ S.wide i → IsRankOf r of (P.index_of i a) w sc v

-- the rank of any index, as a signed number, of an array with these bounds, which fall or not
abbrev pub RanksSigned : T.Meaning → ℕ → ℤ → ℤ → Bool → Rank → Type 0
RanksSigned y w left right down r = (of : Layout) (p : ℕ) (i : Option ℤ) (sc : Scope) (v : Valuation)
    → w ≡ suc p → of.left ≡ left → of.right ≡ right → falls of ≡ down → IsIndex i y w sc v
    → FitsSigned p left → FitsSigned p right → count_of left right < 2 ^ w → IsRankOf r of i w sc v

-- an unsigned index that is widened is one as a signed number
abbrev pub Widens : T.Meaning → T.Meaning → Type 0
Widens y m = (i : S.Meaning) (a : Around) (w : ℕ) (sc : Scope) (v : Valuation) → IsPlainIndex i a y w sc v → S.wide i + 1 ≤ w → IsIndex (P.index_of i a) m w sc v
