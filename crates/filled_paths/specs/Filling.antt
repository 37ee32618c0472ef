-- Select paths with a number in place of an index (IEEE 1800-2017 clauses 7.4.5 and 11.5.1).
use Rattle.std.specs.Prelude.{◌≡◌, ◌⊎◌, ⊤, ℕ, zero, suc, ◌≤◌, ℤ, ◌<ℤ◌, Bool, false, List, [], ◌∷◌, Option, Some, None}
use Rattle.b4_core.specs.declared.bit.Bit4.{Bit4}
use Rattle.picks.specs.Windows.{Window, within}
use Rattle.sv_types.specs.declared.expression.Expr.{Expr}
use Rattle.sv_types.specs.declared.expression.Form.TheVariants as V
use Rattle.sv_types.specs.declared.types.SvType.{SvType}
use Rattle.sv_types.specs.Surroundings.{Around}
use Rattle.sv_types.specs.Paths as P
use Rattle.sv_types.specs.Expressions.{meaning}
use Rattle.typed_paths.specs.Typed.{Indexing, IsTypedPath}

-- a number with these bits, of the type of an index
pub record IsLiteralOf (i : Expr) (bits : List Bit4) (lit : Expr) : Type 0 where
  pub of : lit.of ≡ i.of
  pub form : lit.form ≡ V.Literal bits false

-- the index with a number, and another one in its place
abbrev pub index_in : ℕ → List Indexing → Option Indexing
index_in n [] = None
index_in zero (x ∷ xs) = Some x
index_in (suc n) (x ∷ xs) = index_in n xs

abbrev pub put_index : Expr → ℕ → List Indexing → List Indexing
put_index lit n [] = []
put_index lit zero (x ∷ xs) = record { index = lit; in_part = x.in_part } ∷ xs
put_index lit (suc n) (x ∷ xs) = x ∷ put_index lit n xs

-- A typed path with a number in place of an index, which names the same bits where the index has this number.
pub record IsFilled (number : ℕ) (t : SvType) (xs : List Indexing) (part : Bool) (at : ℕ) (i lit e f : Expr) : Type 0 where
  pub of : f.of ≡ e.of
  pub path : IsTypedPath number t f (put_index lit at xs) part
  pub typed : (meaning e).misfits ≡ 0 → (meaning f).misfits ≡ 0
  pub narrow : (meaning f).widest ≤ (meaning e).widest
  pub window : (a : Around) → P.index_of (meaning i) a ≡ P.index_of (meaning lit) a → (meaning f).window a ≡ (meaning e).window a

-- no number, or one below or above some
abbrev pub IsBeyond : ℤ → ℤ → Option ℤ → Type 0
IsBeyond low high None = ⊤
IsBeyond low high (Some k) = (k <ℤ low) ⊎ (high <ℤ k)

-- a window without a bit
abbrev pub IsEmpty : Window → Type 0
IsEmpty path = (b : ℕ) → within path b ≡ false

-- a path names nothing where an index has no number between two
abbrev pub NamesWithin : Expr → Expr → ℤ → ℤ → Type 0
NamesWithin e i low high = (a : Around) → IsBeyond low high (P.index_of (meaning i) a) → IsEmpty ((meaning e).window a)
