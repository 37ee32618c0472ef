-- Which signals and locals the guards, offsets and indices of what is written name (IEEE 1800-2017 clause 9.4.2.2).
use Rattle.std.specs.Prelude.{◌≡◌, ⊤, ℕ, List, [], ◌∷◌, ◌++◌, Option, Some, None}
use Rattle.v_tree.specs.declared.statements.VLval.{VLval}
use Rattle.v_meaning.specs.Scopes.{Scope}
use Rattle.v_meaning.specs.Statements.{target}
use Rattle.v_meaning.specs.Values as T
use Rattle.v_meaning.specs.Values.{meaning}
use Rattle.lowering_laws.specs.Reached.{Piece}
use Rattle.path_flatten.specs.declared.offsets.Index.{Index}
use Rattle.path_flatten.specs.declared.places.Place.{Place}
use Rattle.path_flatten.specs.declared.ranks.Rank.{Rank}
use Rattle.path_flatten.specs.Guards.{guard_meaning}
use Rattle.path_flatten.specs.Naming.{SameNumbers}
use Rattle.target_flatten.specs.declared.aims.Aim.{Aim}
use Rattle.target_flatten.specs.declared.spots.Spot.{Spot}
use Rattle.target_flatten.specs.declared.spots.Spot.TheVariants as V
use Rattle.target_flatten.specs.declared.writes.Write.{Write}
use Rattle.target_flatten.specs.Writing.{pieces}

abbrev pub guard_names : Option T.Meaning → Scope → List ℕ
guard_names None sc = []
guard_names (Some g) sc = g.names sc

-- a guard, and an offset or a rank
abbrev pub place_names : Place → Scope → List ℕ
place_names p sc = guard_names (guard_meaning p.guard) sc ++ (meaning p.offset).names sc

abbrev pub rank_names : Rank → Scope → List ℕ
rank_names r sc = guard_names (guard_meaning r.guard) sc ++ (meaning r.rank).names sc

-- a guard, and the indices of a target
abbrev pub aim_names : Aim → Scope → List ℕ
aim_names x sc = guard_names (guard_meaning x.guard) sc ++ (target x.to).names sc

abbrev pub piece_names : Piece → Scope → List ℕ
piece_names p sc = guard_names p.guard sc ++ p.to.names sc

-- Where a path stands these are named. Of a path that stands nowhere nothing is left to name them.
abbrev pub SpotNames : List ℕ → Spot → Scope → Type 0
SpotNames ns V.Nowhere sc = ⊤
SpotNames ns (V.Known below) sc = SameNumbers ns []
SpotNames ns (V.Moved place below) sc = SameNumbers ns (place_names place sc)

-- nothing is named; the same; and besides what an index names
abbrev pub NamesNothing : Spot → Type 0
NamesNothing s = (sc : Scope) → SpotNames [] s sc

abbrev pub NamesOn : Spot → Spot → Type 0
NamesOn old s = (ns : List ℕ) (sc : Scope) → SpotNames ns old sc → SpotNames ns s sc

abbrev pub NamesAdded : Spot → Index → Spot → Type 0
NamesAdded old x s = (ns : List ℕ) (sc : Scope) → SpotNames ns old sc → SpotNames (ns ++ (meaning x.expr).names sc) s sc

-- a place names what its path does
abbrev pub NamesPlaceIn : Spot → Option Place → Type 0
NamesPlaceIn s None = ⊤
NamesPlaceIn s (Some p) = (ns : List ℕ) (sc : Scope) → SpotNames ns s sc → SameNumbers ns (place_names p sc)

-- a rank names what a number does, and what an index does
abbrev pub NamesRank : T.Meaning → Rank → Type 0
NamesRank m r = (sc : Scope) → SameNumbers (m.names sc) (rank_names r sc)

abbrev pub NamesRankOf : Index → Rank → Type 0
NamesRankOf x r = NamesRank (meaning x.expr) r

-- a target without indices
abbrev pub NamesNoOther : VLval → Type 0
NamesNoOther to = (sc : Scope) → (target to).names sc ≡ []

-- a target names what its place does, and what its path does
abbrev pub NamesAim : Place → Aim → Type 0
NamesAim p x = (sc : Scope) → SameNumbers (place_names p sc) (aim_names x sc)

abbrev pub NamesAimAt : Spot → Option Aim → Type 0
NamesAimAt s None = ⊤
NamesAimAt s (Some x) = (ns : List ℕ) (sc : Scope) → SpotNames ns s sc → SameNumbers ns (aim_names x sc)

-- each of them names these
abbrev pub EachNames : List ℕ → List Piece → Scope → Type 0
EachNames ns [] sc = ⊤
EachNames ns (p ∷ ps) sc = SameNumbers ns (piece_names p sc) × EachNames ns ps sc

abbrev pub NamesWrites : Spot → List Write → Type 0
NamesWrites s xs = (ns : List ℕ) (sc : Scope) → SpotNames ns s sc → EachNames ns (pieces xs) sc
