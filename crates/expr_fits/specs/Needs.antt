-- What has to fit for an expression to fit.
use Rattle.std.specs.Prelude.{⊤, ℕ, ◌+◌, ◌<◌, ◌≤◌, max, Bool, true, false, List, [], ◌∷◌, map}
use Rattle.sv_types.specs.declared.expression.Expr.{Expr}
use Rattle.sv_types.specs.declared.expression.Choice.{Choice}
use Rattle.sv_types.specs.Surroundings.{Parameter}
use Rattle.sv_types.specs.declared.statement.Formal.{Formal}
use Rattle.sv_types.specs.Meanings.{Meaning, wide, most, total}
use Rattle.sv_types.specs.Operators.{Alternative}
use Rattle.sv_types.specs.Expressions.{meaning}
use Rattle.eval_parts.specs.Insides.{alternative}
use Rattle.eval_parts.specs.Limits.{Fits, AllFit, AllFitAt}
use Rattle.eval_parts.specs.Targets.{marks_of, AllNarrow, AreNarrow}
use Rattle.eval_parts.proofs.Nodes.{nodes, choice_nodes}
use Rattle.expr_fits.specs.Results.{own_of}
use Rattle.expr_fits.specs.declared.needs.Part.{Part}
use Rattle.expr_fits.specs.declared.needs.Need.{Need}
use Rattle.expr_fits.specs.declared.needs.Need.TheVariants as N

abbrev pub FitsIf : Bool → Meaning → (ℕ → List Parameter) → ℕ → Type 0
FitsIf true m fs w = Fits m fs w
FitsIf false m fs w = ⊤

abbrev pub PartFits : Part → (ℕ → List Parameter) → Type 0
PartFits p fs = Fits (meaning p.of.now) fs p.width

-- an expression that fits if its parts do, each of which has fewer nodes
pub record One (x : Part) (e : Expr) (fs : ℕ → List Parameter) (w : ℕ) : Type 0 where
  pub fits : PartFits x fs → Fits (meaning e) fs w
  pub less : nodes x.of.now < nodes e

pub record Two (x y : Part) (e : Expr) (fs : ℕ → List Parameter) (w : ℕ) : Type 0 where
  pub fits : PartFits x fs → PartFits y fs → Fits (meaning e) fs w
  pub left : nodes x.of.now < nodes e
  pub right : nodes y.of.now < nodes e

pub record Three (z x y : Part) (e : Expr) (fs : ℕ → List Parameter) (w : ℕ) : Type 0 where
  pub fits : PartFits z fs → PartFits x fs → PartFits y fs → Fits (meaning e) fs w
  pub first : nodes z.of.now < nodes e
  pub left : nodes x.of.now < nodes e
  pub right : nodes y.of.now < nodes e

pub record Each (es : List Expr) (e : Expr) (fs : ℕ → List Parameter) (w : ℕ) : Type 0 where
  pub fits : AllFit es fs → Fits (meaning e) fs w
  pub less : total (map nodes es) < nodes e

pub record Placed (marks : List (List Bool)) (es : List Expr) (e : Expr) (fs : ℕ → List Parameter) (w : ℕ) : Type 0 where
  pub fits : AllFitAt marks es fs → Fits (meaning e) fs w
  pub less : total (map nodes es) < nodes e

-- a value that is compared has the largest width of all, and each alternative the larger one of both
abbrev pub width_beside : ℕ → Alternative → ℕ
width_beside n (Alternative.Only v) = max n (wide v)
width_beside n (Alternative.From low high) = max (max n (wide low)) (max n (wide high))

abbrev pub width_inside : ℕ → List Choice → ℕ
width_inside n cs = max n (most (map (λ c. width_beside n (alternative c)) cs))

pub record SideFits (n : ℕ) (m : Meaning) (fs : ℕ → List Parameter) : Type 0 where
  pub side : Fits m fs (max n (wide m))
  pub word : max n (wide m) ≤ 128

abbrev pub AlternativeFits : ℕ → (ℕ → List Parameter) → Alternative → Type 0
AlternativeFits n fs (Alternative.Only v) = Fits v fs (max n (wide v))
AlternativeFits n fs (Alternative.From low high) = SideFits n low fs × SideFits n high fs

abbrev pub SideIf : Bool → ℕ → Meaning → (ℕ → List Parameter) → Type 0
SideIf true n m fs = SideFits n m fs
SideIf false n m fs = ⊤

abbrev pub ChoiceIf : Bool → ℕ → (ℕ → List Parameter) → Choice → Type 0
ChoiceIf true n fs c = AlternativeFits n fs (alternative c)
ChoiceIf false n fs c = ⊤

abbrev pub AllChoicesFit : ℕ → (ℕ → List Parameter) → List Choice → Type 0
AllChoicesFit n fs [] = ⊤
AllChoicesFit n fs (c ∷ cs) = AlternativeFits n fs (alternative c) × AllChoicesFit n fs cs

abbrev pub ChoicesIf : Bool → ℕ → (ℕ → List Parameter) → List Choice → Type 0
ChoicesIf true n fs cs = AllChoicesFit n fs cs
ChoicesIf false n fs cs = ⊤

pub record Inside (x : Expr) (cs : List Choice) (e : Expr) (fs : ℕ → List Parameter) (w : ℕ) : Type 0 where
  pub fits : AllChoicesFit (own_of x) fs cs → Fits (meaning x) fs (width_inside (own_of x) cs) → Fits (meaning e) fs w
  pub less : nodes x + total (map choice_nodes cs) < nodes e

-- several expressions
abbrev pub EachIf : Bool → List Expr → (ℕ → List Parameter) → Type 0
EachIf true es fs = AllFit es fs
EachIf false es fs = ⊤

abbrev pub PlacedIf : Bool → List (List Bool) → List Expr → (ℕ → List Parameter) → Type 0
PlacedIf true ps es fs = AllFitAt ps es fs
PlacedIf false ps es fs = ⊤

-- limits
abbrev pub WordIf : Bool → ℕ → Type 0
WordIf true n = n ≤ 128
WordIf false n = ⊤

abbrev pub ShortIf : Bool → ℕ → Type 0
ShortIf true n = n ≤ 64
ShortIf false n = ⊤

abbrev pub NarrowIf : Bool → List Formal → Type 0
NarrowIf true fs = AllNarrow fs
NarrowIf false fs = ⊤

abbrev pub IsNeed : Need → Expr → (ℕ → List Parameter) → ℕ → Type 0
IsNeed N.Never e fs w = ⊤
IsNeed N.Nothing e fs w = Fits (meaning e) fs w
IsNeed (N.One x) e fs w = One x e fs w
IsNeed (N.Two x y) e fs w = Two x y e fs w
IsNeed (N.Three z x y) e fs w = Three z x y e fs w
IsNeed (N.Each es) e fs w = Each es.now e fs w
IsNeed (N.Placed ps es) e fs w = AreNarrow ps × Placed (marks_of ps) es.now e fs w
IsNeed (N.Inside x cs) e fs w = Inside x.now cs.now e fs w
