-- What the calls promise (IEEE 1800-2017 clauses 7.4.5 and 11.5.1).
use Rattle.std.specs.Prelude.{◌≡◌, ℕ, ℤ, pos, ◌+ℤ◌, ◌≤ℤ◌, Bool, List, length, Some, Result, Ok, Err}
use Rattle.std.specs.declared.alloc.AllocError.{AllocError}
use Rattle.b4_core.specs.declared.bit.Bit4.{Bit4}
use Rattle.sv_types.specs.declared.expression.Expr.{Expr}
use Rattle.sv_types.specs.declared.expression.Form.{Form}
use Rattle.sv_types.specs.declared.expression.Form.TheVariants as V
use Rattle.sv_types.specs.declared.types.SvType.{SvType}
use Rattle.sv_types.specs.Meanings as S
use Rattle.sv_types.specs.Expressions.{meaning}
use Rattle.typed_paths.specs.Typed.{Indexing, IsTypedPath}
use Rattle.filled_paths.specs.declared.numbers.Numbers.{Numbers}
use Rattle.filled_paths.specs.Filling.{IsLiteralOf, index_in, IsFilled, NamesWithin}

-- another form with the type of an expression
pub record IsRemade (e : Expr) (form : Form) (f : Expr) : Type 0 where
  pub of : f.of ≡ e.of
  pub form_is : f.form ≡ form

-- steps from what may want memory
abbrev pub IsMemberMade : Expr → Result Expr AllocError → ℕ → Expr → Type 0
IsMemberMade e (Ok g) k f = IsRemade e (V.Member g k) f
IsMemberMade e (Err x) k f = ⊥

abbrev pub IsPartMade : Expr → Result Expr AllocError → ℤ → ℤ → Expr → Type 0
IsPartMade e (Ok g) left right f = IsRemade e (V.Part g left right) f
IsPartMade e (Err x) left right f = ⊥

abbrev pub IsIndexMade : Expr → Result Expr AllocError → Result Expr AllocError → Expr → Type 0
IsIndexMade e (Ok g) (Ok i) f = IsRemade e (V.Index g i) f
IsIndexMade e (Ok g) (Err x) f = ⊥
IsIndexMade e (Err x) i f = ⊥

abbrev pub IsSlideMade : Expr → Result Expr AllocError → Result Expr AllocError → ℕ → Bool → Expr → Type 0
IsSlideMade e (Ok g) (Ok i) n up f = IsRemade e (V.Slide g i n up) f
IsSlideMade e (Ok g) (Err x) n up f = ⊥
IsSlideMade e (Err x) i n up f = ⊥

-- a number with these bits in place of an index
pub record IsFilledBy (number : ℕ) (t : SvType) (xs : List Indexing) (part : Bool) (at : ℕ) (x : Indexing) (bits : List Bit4) (e f : Expr) : Type 0 where
  pub lit : Expr
  pub literal : IsLiteralOf x.index bits lit
  pub filled : IsFilled number t xs part at x.index lit e f

-- so it is in each typed path
abbrev pub Fills : Expr → ℕ → List Bit4 → Expr → Type 0
Fills e at bits f = (number : ℕ) (t : SvType) (xs : List Indexing) (part : Bool) (x : Indexing) → IsTypedPath number t e xs part → index_in at xs ≡ Some x → length bits ≡ S.wide (meaning x.index)
    → IsFilledBy number t xs part at x bits e f

-- one number below and one above both bounds, by so much at least
pub record AreAround (low high left right : ℤ) (far : ℕ) : Type 0 where
  pub low_left : (low +ℤ pos far) ≤ℤ left
  pub low_right : (low +ℤ pos far) ≤ℤ right
  pub left_high : (left +ℤ pos far) ≤ℤ high
  pub right_high : (right +ℤ pos far) ≤ℤ high

-- in each typed path an index names nothing but with the numbers between these
abbrev pub NamesFrom : Expr → ℕ → Numbers → Type 0
NamesFrom e at r = (number : ℕ) (t : SvType) (xs : List Indexing) (part : Bool) (x : Indexing) → IsTypedPath number t e xs part → (meaning e).misfits ≡ 0 → index_in at xs ≡ Some x
    → NamesWithin e x.index r.low r.high
