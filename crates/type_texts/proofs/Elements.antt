-- The sign of an element.
use Rattle.std.proofs.Common.{◌≡◌, ◌≤◌, Bool, false, List, [], ◌∷◌, length, refl, sym, ap, ◌∙◌, arith}
use Rattle.sv_types.specs.declared.types.SvType.{SvType}
use Rattle.sv_types.specs.declared.types.SvType.TheVariants.{PackedArray}
use Rattle.expr_type.specs.KeywordTypes.{Dim, packed}

-- below the outermost dimension all is unsigned
below : (ds : List Dim) (of : Bool → SvType) → packed false ds of ≡ packed false ds (λ s. of false)
below [] of = refl
below (d ∷ ds) of = ap (λ (t : SvType). PackedArray d.left d.right false t) (below ds of)

pub element-unsigned : (signed : Bool) (ds : List Dim) (of : Bool → SvType) (t : SvType) → 1 ≤ length ds → t ≡ of false
    → packed signed ds (λ s. t) ≡ packed signed ds of
element-unsigned signed [] of t h e = absurd (omega arith)
element-unsigned signed (d ∷ ds) of t h e =
    ap (λ (u : SvType). packed signed (d ∷ ds) (λ s. u)) e ∙ ap (λ (u : SvType). PackedArray d.left d.right signed u) (sym (below ds of))
