-- What typed expressions keep, so that they can be valued.
use Rattle.std.specs.Prelude.{◌≡◌, ◌≤◌, ⊤, ℕ, max, true, List, [], ◌∷◌, Some, slice_get}
use Rattle.sv_types.specs.declared.expression.Expr.{Expr}
use Rattle.sv_types.specs.declared.statement.Function.{Function}
use Rattle.sv_types.specs.declared.types.SvType.{SvType}
use Rattle.sv_types.specs.Expressions.{meaning}
use Rattle.sv_types.specs.Functions.{parameters}
use Rattle.sv_types.specs.Layouts.{width_of}
use Rattle.sv_types.specs.Meanings.{Meaning}
use Rattle.sv_types.specs.Surroundings.{Parameter}
use Rattle.expr_type.specs.declared.operand.Valued.{Valued}
use Rattle.expr_type.specs.Operands.{too_wide}
use Rattle.typing_fits.specs.Types.{is_full}

-- the functions of one list stand at the same places in another
pub record Extends (gs hs : List Function) : Type 0 where
  pub keeps : (n : ℕ) (f : Function) → slice_get gs n ≡ Some f → slice_get hs n ≡ Some f

-- formals of functions, where these are known
pub record Knows (gs : List Function) (fs : ℕ → List Parameter) : Type 0 where
  pub formals : (n : ℕ) (f : Function) → slice_get gs n ≡ Some f → fs n ≡ parameters f

-- It is typed as its parts say, no type in it has more than 2^22 bits, no index more than 64, and its arithmetic has at most 128
-- in a context in which none of these operators is too wide.
pub record Limited (m : Meaning) (operators : List ℕ) (gs : List Function) : Type 0 where
  pub typed : m.misfits ≡ 0
  pub narrow : m.widest ≤ 4194304
  pub indexing : m.indexing ≤ 64
  pub arithmetic : (fs : ℕ → List Parameter) → Knows gs fs → (w : ℕ) → too_wide w operators ≡ [] → m.arithmetic fs w ≤ 128

-- the same at one width
pub record LimitedAt (m : Meaning) (w : ℕ) (gs : List Function) : Type 0 where
  pub typed : m.misfits ≡ 0
  pub narrow : m.widest ≤ 4194304
  pub indexing : m.indexing ≤ 64
  pub arithmetic : (fs : ℕ → List Parameter) → Knows gs fs → m.arithmetic fs w ≤ 128

-- a type of at most 2^22 bits, of which each part has one
pub record IsNarrowType (t : SvType) : Type 0 where
  pub full : is_full t ≡ true
  pub narrow : width_of t ≤ 4194304

-- An expression with the operators in it that take the context, of which none is too wide in its own.
pub record SoundExpr (e : Expr) (operators : List ℕ) (gs : List Function) : Type 0 where
  pub of : IsNarrowType e.of
  pub own : too_wide (width_of e.of) operators ≡ []
  pub limits : Limited (meaning e) operators gs

-- a typed expression, where these functions are known
abbrev pub Sound : Valued → List Function → Type 0
Sound v gs = SoundExpr v.expr v.arithmetic gs

abbrev pub AllSound : List Valued → List Function → Type 0
AllSound [] gs = ⊤
AllSound (v ∷ vs) gs = Sound v gs × AllSound vs gs

-- an expression that is valued alone
pub record SoundAlone (e : Expr) (gs : List Function) : Type 0 where
  pub of : IsNarrowType e.of
  pub limits : LimitedAt (meaning e) (width_of e.of) gs

abbrev pub AllSoundAlone : List Expr → List Function → Type 0
AllSoundAlone [] gs = ⊤
AllSoundAlone (e ∷ es) gs = SoundAlone e gs × AllSoundAlone es gs

-- one that is given to a target of a type
pub record SoundFor (e : Expr) (t : SvType) (gs : List Function) : Type 0 where
  pub of : IsNarrowType e.of
  pub limits : LimitedAt (meaning e) (max (width_of t) (width_of e.of)) gs
