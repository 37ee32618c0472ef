-- The types that expressions have.
use Rattle.std.specs.Prelude.{◌≡◌, ⊤, ℕ, ◌≤◌, Bool, true, false, nat_le, cond, List, [], ◌∷◌, length, map, Option, Some, None}
use Rattle.std.specs.List.{list_any}
use Rattle.sv_types.specs.declared.types.SvType.{SvType}
use Rattle.sv_types.specs.declared.expression.Expr.{Expr}
use Rattle.sv_types.specs.declared.types.Member.{Member}
use Rattle.sv_types.specs.Layouts.{Layout, Part, layout, member_layout, width_of, repeated, at_the_bottom}
use Rattle.sv_types.specs.Meanings.{without_bits, misfit}
use Rattle.sv_types.specs.Paths.{unlike, unlike_part, elements_marks}
use Rattle.expr_fits.specs.declared.alike.Elements.{Elements}

-- the width of an expression alone; 0 where it is above 2^22
unfoldable pub own_of : Expr → ℕ
own_of e = cond (nat_le (width_of e.of) 4194304) (width_of e.of) 0

-- a type of at most 2^22 bits that has a bit
pub record HasBits (of : Layout) : Type 0 where
  pub some : without_bits of ≡ 0
  pub narrow : length of.two_state ≤ 4194304

abbrev pub BitsIf : Bool → Layout → Type 0
BitsIf true of = HasBits of
BitsIf false of = ⊤

-- one of a width and a sign
pub record IsResult (of : Layout) (n : ℕ) (s : Bool) : Type 0 where
  pub bits : HasBits of
  pub same : misfit of n s ≡ 0

abbrev pub ResultIf : Bool → Layout → ℕ → Bool → Type 0
ResultIf true of n s = IsResult of n s
ResultIf false of n s = ⊤

-- one without a two-state bit
abbrev pub FourIf : Bool → Layout → Type 0
FourIf true of = cond {A = ℕ} (list_any (λ b. b) of.two_state) 1 0 ≡ 0
FourIf false of = ⊤

pub record IsVector (of : Layout) (n : ℕ) (s : Bool) : Type 0 where
  pub result : IsResult of n s
  pub four : cond {A = ℕ} (list_any (λ b. b) of.two_state) 1 0 ≡ 0

abbrev pub VectorIf : Bool → Layout → ℕ → Bool → Type 0
VectorIf true of n s = IsVector of n s
VectorIf false of n s = ⊤

-- types of the same bits, sign, members and elements
abbrev pub AlikeIf : Bool → SvType → SvType → Type 0
AlikeIf true t u = layout t ≡ layout u
AlikeIf false t u = ⊤

abbrev pub AllAlikeIf : Bool → List Member → List Member → Type 0
AllAlikeIf true ms ns = map member_layout ms ≡ map member_layout ns
AllAlikeIf false ms ns = ⊤

-- one that a select gives
abbrev pub PartIf : Bool → Layout → Option Part → Type 0
PartIf true of m = unlike_part of m ≡ 0
PartIf false of m = ⊤

abbrev pub ElementIf : Bool → Layout → Layout → Type 0
ElementIf true of from = unlike of from.element.two_state from.element.signed ≡ 0
ElementIf false of from = ⊤

abbrev pub ElementsIf : Bool → Layout → Layout → ℕ → Type 0
ElementsIf true of from n = unlike of (elements_marks from n) false ≡ 0
ElementsIf false of from n = ⊤

-- what an array is made of
pub record MadeOf (e : Elements) (of : Layout) : Type 0 where
  pub marks : of.two_state ≡ repeated e.count (layout e.item.now).two_state
  pub element : of.element ≡ at_the_bottom (layout e.item.now)

abbrev pub AreElements : Option Elements → Layout → Type 0
AreElements None of = ⊤
AreElements (Some e) of = MadeOf e of

abbrev pub SameElementsIf : Bool → Layout → Layout → ℕ → ℕ → Type 0
SameElementsIf true x y n m = (n ≡ m) × (x ≡ y)
SameElementsIf false x y n m = ⊤
