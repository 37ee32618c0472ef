-- What the targets of a path are made of: its name with a select at most (IEEE 1364-2005 clause 9.2); a continuous assignment
-- takes decimal selects alone (clause 6.1.2).
use Rattle.std.specs.Prelude.{◌≡◌, ⊤, ℕ, ◌≤◌, List, [], ◌∷◌, length, Option, Some, None}
use Rattle.v_tree.specs.Names.{Name}
use Rattle.v_tree.specs.declared.expressions.VExpr.{VExpr}
use Rattle.v_tree.specs.declared.expressions.VExtent.{VExtent}
use Rattle.v_tree.specs.declared.expressions.VSel.{VSel}
use Rattle.v_tree.specs.declared.expressions.VSel.TheVariants as S
use Rattle.v_tree.specs.declared.statements.VLval.{VLval}
use Rattle.v_tree.specs.declared.statements.VLval.TheVariants as L
use Rattle.v_meaning.specs.Scopes.{Scope, Use}
use Rattle.v_meaning.specs.Selects.{SelMeaning}
use Rattle.v_meaning.specs.Values.{sel_meaning}
use Rattle.lowering_laws.specs.Reached.{Piece}
use Rattle.target_flatten.specs.declared.aims.Aim.{Aim}
use Rattle.target_flatten.specs.declared.spots.Spot.{Spot}
use Rattle.target_flatten.specs.declared.spots.Spot.TheVariants as V
use Rattle.target_flatten.specs.declared.writes.Write.{Write}

-- this name with a select at most, and with none where it has one bit
pub record IsOwn (name : Name) (bits : ℕ) (to : VLval) : Type 0 where
  pub sels : List VSel
  pub is : to ≡ L.Name name sels
  pub few : length sels ≤ 1
  pub bare : bits ≡ 1 → sels ≡ []

-- this name with one select, which means this
pub record IsSelected (name : Name) (m : SelMeaning) (to : VLval) : Type 0 where
  pub sel : VSel
  pub is : to ≡ L.Name name (sel ∷ [])
  pub means : sel_meaning sel ≡ m

-- selects whose base is a decimal number
pub record IsDecimal (s : VSel) : Type 0 where
  pub base : ℕ
  pub extent : Option VExtent
  pub is : s ≡ S.Decimal base extent

abbrev pub AreDecimal : List VSel → Type 0
AreDecimal [] = ⊤
AreDecimal (s ∷ ss) = IsDecimal s × AreDecimal ss

-- this name with such selects
pub record HasDecimals (name : Name) (to : VLval) : Type 0 where
  pub sels : List VSel
  pub is : to ≡ L.Name name sels
  pub decimal : AreDecimal sels

-- and without a guard
pub record IsPlain (name : Name) (guard : Option VExpr) (to : VLval) : Type 0 where
  pub free : guard ≡ None
  pub decimals : HasDecimals name to

-- a path stands at a known place, or nowhere, and so does another one then
abbrev pub IsSteady : Spot → Type 0
IsSteady V.Nowhere = ⊤
IsSteady (V.Known below) = ⊤
IsSteady (V.Moved place below) = ⊥

abbrev pub StaysSteady : Spot → Spot → Type 0
StaysSteady old new = IsSteady old → IsSteady new

-- the target of a path that stands somewhere
abbrev pub OwnAim : Name → ℕ → Option Aim → Type 0
OwnAim name bits None = ⊤
OwnAim name bits (Some x) = IsOwn name bits x.to

abbrev pub PlainAim : Name → Spot → Option Aim → Type 0
PlainAim name s None = ⊤
PlainAim name s (Some x) = IsSteady s → IsPlain name x.guard x.to

-- all that is written of one
abbrev pub AllOwn : Name → ℕ → List Write → Type 0
AllOwn name bits [] = ⊤
AllOwn name bits (x ∷ xs) = IsOwn name bits x.to × AllOwn name bits xs

abbrev pub AllPlain : Name → List Write → Type 0
AllPlain name [] = ⊤
AllPlain name (x ∷ xs) = IsPlain name x.guard x.to × AllPlain name xs

abbrev pub PlainWrites : Name → Spot → List Write → Type 0
PlainWrites name s xs = IsSteady s → AllPlain name xs

-- the target of so many bits from bit low on, if there is one
abbrev pub writes_made : Option Aim → ℕ → ℕ → List Write
writes_made None low n = []
writes_made (Some x) low n = record { guard = x.guard; to = x.to; low = low; width = n } ∷ []

-- what targets may write is of the signal or local with this number
abbrev pub AreUsesOf : ℕ → List Use → Type 0
AreUsesOf n [] = ⊤
AreUsesOf n (u ∷ us) = (u.number ≡ n) × AreUsesOf n us

abbrev pub AllWrite : ℕ → List Piece → Scope → Type 0
AllWrite n [] sc = ⊤
AllWrite n (p ∷ ps) sc = AreUsesOf n (p.to.writes sc) × AllWrite n ps sc
