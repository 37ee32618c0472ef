-- Where a path that is written stands, and what its steps make of that (IEEE 1800-2017 clauses 7.2.1, 7.4.5 and 11.5.1).
use Rattle.std.specs.Prelude.{◌≡◌, ⊤, ℕ, ◌+◌, ◌-◌, ◌≤◌, ◌<◌, ◌^◌, ℤ, pos, ◌-ℤ◌, length, Option, Some, None, slice_get}
use Rattle.row_machine.specs.Valuation.{Valuation}
use Rattle.sv_types.specs.declared.types.SvType.{SvType}
use Rattle.sv_types.specs.Layouts.{Layout, layout, count_of}
use Rattle.sv_types.specs.Windows.{member_of, element_of}
use Rattle.sv_types.specs.Surroundings.{Around}
use Rattle.sv_types.specs.Meanings as S
use Rattle.sv_types.specs.Paths as P
use Rattle.v_meaning.specs.Scopes.{Scope}
use Rattle.v_meaning.specs.Values as T
use Rattle.v_meaning.specs.Values.{meaning}
use Rattle.eval_parts.specs.Places.{window_of}
use Rattle.eval_parts.specs.declared.paths.Window.{Window as Span}
use Rattle.lowering_laws.specs.Images.{Names, NamesNone}
use Rattle.lowering_laws.specs.Signed.{IsIndex, FitsSigned}
use Rattle.lowering_laws.specs.Steps.{CountsDown}
use Rattle.lowering_laws.specs.Terms.{and_guard, moved}
use Rattle.path_flatten.specs.declared.offsets.Index.{Index}
use Rattle.path_flatten.specs.declared.places.Place.{Place}
use Rattle.path_flatten.specs.declared.ranks.Rank.{Rank}
use Rattle.path_flatten.specs.Guards.{guard_meaning}
use Rattle.path_flatten.specs.Placing.{IsPlaceOf, IsRankOf}
use Rattle.path_flatten.specs.Reading.{StaysIn}
use Rattle.path_flatten.specs.Sliding.{IsIndexOf}
use Rattle.path_flatten.specs.Stepping.{IsStep, HasPart}
use Rattle.target_flatten.specs.declared.spots.Spot.{Spot}
use Rattle.target_flatten.specs.declared.spots.Spot.TheVariants as V
use Rattle.target_laws.specs.Distances.{moved_by}
use Rattle.target_laws.specs.Seeing.{IsSeen, IsFull}
use Rattle.target_laws.specs.Standing.{IsKnown, IsInside, IsMoved}

-- a path stands there in an image of so many bits, by offsets of w bits
abbrev pub IsSpot : Spot → S.Meaning → Around → ℕ → ℕ → Scope → Valuation → Type 0
IsSpot V.Nowhere e a w bits sc v = NamesNone e a
IsSpot (V.Known below) e a w bits sc v = IsKnown e a below bits
IsSpot (V.Moved place below) e a w bits sc v = IsMoved e a below (guard_meaning place.guard) (meaning place.offset) w bits sc v

-- all of an image
abbrev pub StandsWhole : Spot → Type 0
StandsWhole s = (e : S.Meaning) (a : Around) (w bits : ℕ) (sc : Scope) (v : Valuation) → Names e a 0 bits → S.wide e ≡ bits → IsSpot s e a w bits sc v

-- some bits of a path, from one on
abbrev pub StandsInside : Spot → ℕ → Spot → Type 0
StandsInside old low s = (e from : S.Meaning) (a : Around) (w bits : ℕ) (sc : Scope) (v : Valuation) → bits < 2 ^ 32 → IsInside e from a low
    → IsSpot old from a w bits sc v → IsSpot s e a w bits sc v

-- bits of a path that a window names, all of them or none
abbrev pub Narrows : Spot → Span → Spot → Type 0
Narrows old inner s = (e from : S.Meaning) (a : Around) (w bits : ℕ) (sc : Scope) (v : Valuation) → bits < 2 ^ 32
    → IsSeen (e.window a) (from.window a) (window_of inner) → StaysIn (window_of inner) (S.wide e) → inner.high ≤ S.wide from → IsFull (window_of inner) (S.wide e)
    → IsSpot old from a w bits sc v → IsSpot s e a w bits sc v

-- a member, and an element with a known index
abbrev pub SpotsMember : Spot → SvType → ℕ → Spot → Type 0
SpotsMember old t k s = (e from : S.Meaning) (a : Around) (w bits : ℕ) (sc : Scope) (v : Valuation) → bits < 2 ^ 32 → from.of ≡ layout t
    → IsStep e from a (member_of (slice_get from.of.members k)) → HasPart (S.wide e) (slice_get from.of.members k) → 1 ≤ S.wide from
    → StaysIn (from.window a) (S.wide from) → IsSpot old from a w bits sc v → IsSpot s e a w bits sc v

abbrev pub SpotsElement : Spot → SvType → Option ℤ → Spot → Type 0
SpotsElement old t z s = (e from : S.Meaning) (a : Around) (w bits : ℕ) (sc : Scope) (v : Valuation) → bits < 2 ^ 32 → from.of ≡ layout t
    → IsStep e from a (element_of from.of z) → S.wide e ≡ length from.of.element.two_state → 1 ≤ S.wide from
    → StaysIn (from.window a) (S.wide from) → IsSpot old from a w bits sc v → IsSpot s e a w bits sc v

-- w bits have room for an index and for the bounds of what it selects from, moved by d
pub record HasRoom (w : ℕ) (x : Index) (of : Layout) (d : ℤ) : Type 0 where
  pub index : x.width + 1 ≤ w
  pub left : FitsSigned (w - 1) (of.left -ℤ d)
  pub right : FitsSigned (w - 1) (of.right -ℤ d)
  pub count : count_of of.left of.right < 2 ^ w

-- the rank of an index of a type that is moved by d
abbrev pub RanksMoved : Index → SvType → ℤ → ℕ → Rank → Type 0
RanksMoved x t d w r = (i : S.Meaning) (a : Around) (sc : Scope) (v : Valuation) → IsIndexOf x i a sc v → HasRoom w x (layout t) d
    → IsRankOf r (layout t) (moved_by (P.index_of i a) d) w sc v

-- the rank of an index by its number, between two bounds
abbrev pub RanksNumber : T.Meaning → ℕ → ℤ → ℤ → Rank → Type 0
RanksNumber m w left right r = (of : Layout) (i : Option ℤ) (sc : Scope) (v : Valuation) → of.left ≡ left → of.right ≡ right → 1 ≤ w → IsIndex i m w sc v
    → FitsSigned (w - 1) left → FitsSigned (w - 1) right → count_of left right < 2 ^ w → IsRankOf r of i w sc v

-- the same of an index
abbrev pub RanksBetween : Index → ℕ → ℤ → ℤ → Rank → Type 0
RanksBetween x w left right r = (of : Layout) (i : S.Meaning) (a : Around) (sc : Scope) (v : Valuation) → of.left ≡ left → of.right ≡ right → IsIndexOf x i a sc v
    → x.width + 1 ≤ w → FitsSigned (w - 1) left → FitsSigned (w - 1) right → count_of left right < 2 ^ w → IsRankOf r of (P.index_of i a) w sc v

-- the place of a path that stands somewhere
abbrev pub IsPlaceIn : Spot → ℕ → Option Place → Type 0
IsPlaceIn s w None = (e : S.Meaning) (a : Around) (bits : ℕ) (sc : Scope) (v : Valuation) → IsSpot s e a w bits sc v → NamesNone e a
IsPlaceIn s w (Some p) = (e : S.Meaning) (a : Around) (bits : ℕ) (sc : Scope) (v : Valuation) → 1 ≤ w → bits < 2 ^ w → IsSpot s e a w bits sc v
    → IsPlaceOf p e a w bits sc v × (S.wide e ≤ bits)

-- an element by a lowered index that is moved by d
abbrev pub SpotsIndex : Spot → Index → SvType → ℤ → ℕ → Spot → Type 0
SpotsIndex old x t d w s = (e from i : S.Meaning) (a : Around) (bits : ℕ) (sc : Scope) (v : Valuation) → bits < 2 ^ w → HasRoom w x (layout t) d → from.of ≡ layout t
    → IsStep e from a (element_of from.of (moved_by (P.index_of i a) d)) → S.wide e ≡ length from.of.element.two_state → 1 ≤ S.wide from
    → IsIndexOf x i a sc v → IsSpot old from a w bits sc v → IsSpot s e a w bits sc v

-- the rank of an unsigned index of an array `[last:0]`
abbrev pub RanksShort : Index → ℕ → Rank → Type 0
RanksShort x last r = (of : Layout) (i : S.Meaning) (a : Around) (w : ℕ) (sc : Scope) (v : Valuation) → CountsDown of last → IsIndexOf x i a sc v → x.width ≤ w
    → IsRankOf r of (P.index_of i a) w sc v

-- the last index of an array `[last:0]`
abbrev pub IsLast : ℤ → ℤ → Option ℕ → Type 0
IsLast left right None = ⊤
IsLast left right (Some last) = (left ≡ pos last) × (right ≡ pos 0)

-- an element by a rank, of so many bits, of a path with a place
abbrev pub PlacedAt : Place → Rank → ℕ → ℕ → Spot → Type 0
PlacedAt p r item w V.Nowhere = ⊥
PlacedAt p r item w (V.Known below) = ⊥
PlacedAt p r item w (V.Moved q below) =
    (below ≡ 0) × (guard_meaning q.guard ≡ and_guard (guard_meaning p.guard) (guard_meaning r.guard)) × (meaning q.offset ≡ moved (meaning p.offset) (meaning r.rank) item w)

abbrev pub SpotsPlaced : Option Place → Rank → ℕ → ℕ → Spot → Type 0
SpotsPlaced None r item w s = s ≡ V.Nowhere
SpotsPlaced (Some p) r item w s = PlacedAt p r item w s
