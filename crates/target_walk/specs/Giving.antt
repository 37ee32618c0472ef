-- The indices of a select path (IEEE 1800-2017 clauses 7.4.5 and 11.5.1).
use Rattle.std.specs.Prelude.{◌≡◌, ⊤, ℕ, ◌≤◌, ◌^◌, ℤ, ◌+ℤ◌, pos, unsigned_abs, Bool, true, false, ◌&&◌, int_le, int_lt, cond, List, [], ◌∷◌, ◌++◌, Option, Some, None}
use Rattle.row_machine.specs.Valuation.{Valuation}
use Rattle.sv_types.specs.Layouts.{Layout}
use Rattle.v_meaning.specs.Scopes.{Scope}
use Rattle.v_meaning.specs.Values.{meaning}
use Rattle.path_flatten.specs.declared.offsets.Index.{Index}
use Rattle.path_flatten.specs.Sliding.{HasNumber}
use Rattle.target_laws.specs.Distances.{moved_by}
use Rattle.target_laws.specs.Elements.{kept, far_from}
use Rattle.target_flatten.specs.Spots.{HasRoom}
use Rattle.target_walk.specs.declared.given.Element.{Element}
use Rattle.target_walk.specs.declared.given.Element.TheVariants as E
use Rattle.target_walk.specs.declared.given.Given.{Given}
use Rattle.target_walk.specs.declared.given.Given.TheVariants as G

-- it has this number, if there is one
abbrev pub IsGiven : Given → Option ℤ → Scope → Valuation → Type 0
IsGiven (G.Known k) z sc v = k ≡ z
IsGiven (G.Lowered x d) z sc v = (y : Option ℤ) × HasNumber x y sc v × (moved_by y d ≡ z)

-- what it names, and what all of them do
abbrev pub given_names : Given → Scope → List ℕ
given_names (G.Known k) sc = []
given_names (G.Lowered x d) sc = (meaning x.expr).names sc

abbrev pub all_names : List Given → Scope → List ℕ
all_names [] sc = []
all_names (g ∷ gs) sc = all_names gs sc ++ given_names g sc

-- its numbers are small
abbrev pub IsSmall : Given → Type 0
IsSmall (G.Known None) = ⊤
IsSmall (G.Known (Some k)) = unsigned_abs k ≤ 2 ^ 64
IsSmall (G.Lowered x d) = (x.width ≤ 64) × (unsigned_abs d ≤ 2 ^ 36)

abbrev pub AllSmall : List Given → Type 0
AllSmall [] = ⊤
AllSmall (g ∷ gs) = IsSmall g × AllSmall gs

-- so they are where a test says yes
abbrev pub IsSmallIf : Bool → Given → Type 0
IsSmallIf true g = IsSmall g
IsSmallIf false g = ⊤

abbrev pub AllSmallIf : Bool → List Given → Type 0
AllSmallIf true gs = AllSmall gs
AllSmallIf false gs = ⊤

-- numbers that may have been moved once
abbrev pub IsClose : Given → Type 0
IsClose (G.Known None) = ⊤
IsClose (G.Known (Some k)) = unsigned_abs k ≤ 2 ^ 65
IsClose (G.Lowered x d) = (x.width ≤ 64) × (unsigned_abs d ≤ 2 ^ 40)

abbrev pub IsCloseIf : Option Given → Type 0
IsCloseIf None = ⊤
IsCloseIf (Some g) = IsClose g

-- one that is moved
abbrev pub moved_given : Given → ℤ → Given
moved_given (G.Known k) d = G.Known (moved_by k d)
moved_given (G.Lowered x e) d = G.Lowered x (e +ℤ d)

-- A known index of a part-select, as one of what that selects from; of a lowered one nothing is said.
abbrev pub kept_given : ℤ → ℤ → Given → Given
kept_given left right (G.Known k) = G.Known (kept left right k)
kept_given left right (G.Lowered x d) = G.Known None

abbrev pub element_given : Bool → Bool → ℕ → Given → Option ℤ → Given
element_given falls up n base None = G.Known None
element_given falls up n base (Some j) = cond (int_le (pos 0) j && int_lt j (pos n)) (moved_given base (far_from falls up n j)) (G.Known None)

abbrev pub given_on : Bool → Bool → ℕ → Given → Given → Given
given_on falls up n base (G.Known j) = element_given falls up n base j
given_on falls up n base (G.Lowered x d) = G.Known None

-- the index that an element is asked for by, if there is one, and one that may have x or z
abbrev pub given_of : Element → Given
given_of (E.Known k) = G.Known (Some k)
given_of (E.Lowered x d) = G.Lowered x.now d

abbrev pub given_if : Option Element → Option Given
given_if None = None
given_if (Some g) = Some (given_of g)

abbrev pub given_or_lost : Option Element → Given
given_or_lost None = G.Known None
given_or_lost (Some g) = given_of g

-- a lowered index of what has this layout: offsets have room for it, and of a part-select there is none
abbrev pub LoweredFits : ℕ → Bool → Index → ℤ → Layout → Type 0
LoweredFits w true x d of = ⊥
LoweredFits w false x d of = HasRoom w x of d

-- an index of what has this layout, which is a part-select or not
abbrev pub FitsAt : ℕ → Bool → Given → Layout → Type 0
FitsAt w part (G.Known k) of = ⊤
FitsAt w part (G.Lowered x d) of = LoweredFits w part x d of
