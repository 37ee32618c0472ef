-- The widths of types, kind by kind.
use Rattle.std.proofs.Common.{◌≡◌, ◌<◌, ℕ, ℤ, ◌*◌, ◌%◌, Bool, List, [], ◌∷◌, refl, ap, ◌∙◌, sym, arith}
use Rattle.std.specs.Prelude.{slice_get, Some, None, Result, Ok, Err, IfOk}
use Rattle.std.specs.declared.alloc.AllocError.{AllocError}
use Rattle.sv_types.specs.declared.types.SvType.{SvType}
use Rattle.sv_types.specs.declared.types.SvType.TheVariants.{PackedArray, UnpackedArray}
use Rattle.sv_types.specs.Layouts.{count_of, width_of}
use Rattle.sv_types.proofs.Lengths.{width-PackedArray, width-UnpackedArray, width-Struct, width-Union, layout-Scalar, layout-Enum}
use Rattle.type_widths.specs.Limbs.{number}

-- an array whose bounds and elements are known
pub packed-same : (t u item : SvType) (l r k m : ℤ) (s : Bool) → k ≡ l → m ≡ r → u ≡ item → t ≡ PackedArray l r s item
    → count_of k m * width_of u ≡ width_of t
packed-same t u item l r k m s e f g h =
    ap (λ (n : ℤ). count_of n m * width_of u) e ∙ ap (λ (n : ℤ). count_of l n * width_of u) f ∙ ap (λ (v : SvType). count_of l r * width_of v) g
    ∙ sym (width-PackedArray l r s item) ∙ ap width_of (sym h)

pub unpacked-same : (t u item : SvType) (l r k m : ℤ) → k ≡ l → m ≡ r → u ≡ item → t ≡ UnpackedArray l r item
    → count_of k m * width_of u ≡ width_of t
unpacked-same t u item l r k m e f g h =
    ap (λ (n : ℤ). count_of n m * width_of u) e ∙ ap (λ (n : ℤ). count_of l n * width_of u) f ∙ ap (λ (v : SvType). count_of l r * width_of v) g
    ∙ sym (width-UnpackedArray l r item) ∙ ap width_of (sym h)

pub ruleset layouts = (width-PackedArray, width-UnpackedArray, width-Struct, width-Union)

pub low-some : (xs : List ℕ) (x : ℕ) → Some x ≡ slice_get xs 0 → x < 4294967296 → number xs % 4294967296 ≡ x
low-some [] x e h = cc
low-some (y ∷ xs) x e h = let f : x ≡ y = cc in omega arith

pub low-none : (xs : List ℕ) → None ≡ slice_get xs 0 → number xs % 4294967296 ≡ 0
low-none [] e = refl
low-none (y ∷ xs) e = cc

pub ruleset lowest = (low-some, low-none)

-- what is made has the width of a type
pub if-same : (r : Result (List ℕ) AllocError) (m n : ℕ) → m ≡ n → IfOk r (λ w. number w ≡ m) → IfOk r (λ w. number w ≡ n)
if-same (Ok w) m n e h = h ∙ e
if-same (Err x) m n e h = tt
