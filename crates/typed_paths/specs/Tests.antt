-- What tests of types and paths say.
use Rattle.std.specs.Prelude.{◌≡◌, ℕ, ℤ, Bool, true, false, List}
use Rattle.sv_types.specs.declared.expression.Expr.{Expr}
use Rattle.sv_types.specs.declared.types.SvType.{SvType}
use Rattle.sv_types.specs.Layouts.{layout}
use Rattle.target_laws.specs.Elements.{IsPartOf, IsSlideOf}
use Rattle.typed_paths.specs.Typed.{Indexing, IsTypedPath, has_elements}

-- A test that says yes where this holds, and no where it doesn't.
abbrev pub Tells : Bool → Type 0 → Type 0
Tells true P = P
Tells false P = P → ⊥

-- the type of a part-select of what has another type, which has elements
pub record IsPartType (t from : SvType) (left right : ℤ) : Type 0 where
  pub has : has_elements from ≡ true
  pub is : IsPartOf (layout t) (layout from) left right

pub record IsSlideType (t from : SvType) (n : ℕ) : Type 0 where
  pub has : has_elements from ≡ true
  pub is : IsSlideOf (layout t) (layout from) n

-- whether the last step of a path is a part-select
abbrev pub EndsInPart : Bool → Expr → Type 0
EndsInPart b e = (number : ℕ) (t : SvType) (xs : List Indexing) (part : Bool) → IsTypedPath number t e xs part → part ≡ b
