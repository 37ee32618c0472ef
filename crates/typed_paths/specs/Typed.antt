-- Select paths with the types that the rules give them (IEEE 1800-2017 clauses 7.2.1, 7.4.5, 7.4.6 and 11.5.1).
use Rattle.std.specs.Prelude.{◌≡◌, ℕ, ℤ, Bool, true, false, List, [], ◌∷◌}
use Rattle.sv_types.specs.declared.expression.Expr.{Expr}
use Rattle.sv_types.specs.declared.expression.Form.TheVariants as V
use Rattle.sv_types.specs.declared.types.Member.{Member-F}
use Rattle.sv_types.specs.declared.types.SvType.{SvType, SvType-F, fold-SvType}
use Rattle.sv_types.specs.Layouts.{layout}
use Rattle.sv_types.specs.Surroundings.{local_number}
use Rattle.target_laws.specs.Elements.{IsPartOf, IsSlideOf}

-- what has elements: an array, and a packed value as the vector of its bits; an unpacked struct has none
abbrev pub elements_step : SvType-F Bool Bool → Bool
elements_step (SvType-F.Scalar four s) = true
elements_step (SvType-F.PackedArray left right s item) = true
elements_step (SvType-F.Struct id packed s ms) = packed
elements_step (SvType-F.Union id s ms) = true
elements_step (SvType-F.Enum id base names) = base
elements_step (SvType-F.UnpackedArray left right item) = true

abbrev pub any_member : Member-F Bool Bool → Bool
any_member m = true

abbrev pub has_elements : SvType → Bool
has_elements = fold-SvType Bool Bool elements_step any_member

-- an index of a path, and whether it selects from a part-select
pub record Indexing : Type 0 where
  pub index : Expr
  pub in_part : Bool

-- A path on what is held under a number and has a type, with its indices, the last step's first, and whether its last step is a
-- part-select. A part-select has no members, and the type that the rules give it.
pub data IsTypedPath (number : ℕ) (t : SvType) : Expr → List Indexing → Bool → Type 0 where
  of_signal : (e : Expr) (n : ℕ) → e.form ≡ V.Signal n → n ≡ number → e.of ≡ t → IsTypedPath number t e [] false
  of_local : (e : Expr) (n : ℕ) → e.form ≡ V.Local n → local_number n ≡ number → e.of ≡ t → IsTypedPath number t e [] false
  of_member : (e from : Expr) (k : ℕ) (xs : List Indexing) → e.form ≡ V.Member from k → IsTypedPath number t from xs false → IsTypedPath number t e xs false
  of_index : (e from i : Expr) (xs : List Indexing) (part : Bool) → e.form ≡ V.Index from i → has_elements from.of ≡ true → IsTypedPath number t from xs part
      → IsTypedPath number t e (record { index = i; in_part = part } ∷ xs) false
  of_part : (e from : Expr) (left right : ℤ) (xs : List Indexing) (part : Bool) → e.form ≡ V.Part from left right → has_elements from.of ≡ true
      → IsPartOf (layout e.of) (layout from.of) left right → IsTypedPath number t from xs part → IsTypedPath number t e xs true
  of_slide : (e from i : Expr) (n : ℕ) (up : Bool) (xs : List Indexing) (part : Bool) → e.form ≡ V.Slide from i n up → has_elements from.of ≡ true
      → IsSlideOf (layout e.of) (layout from.of) n → IsTypedPath number t from xs part → IsTypedPath number t e (record { index = i; in_part = part } ∷ xs) true

-- such a path, whatever it stands on and its indices are
pub record IsTyped (e : Expr) : Type 0 where
  pub number : ℕ
  pub of : SvType
  pub indices : List Indexing
  pub part : Bool
  pub path : IsTypedPath number of e indices part
