-- Items by their numbers, with the one behind `default` and without it.
use Rattle.std.specs.Prelude.{ℕ, suc, ◌+◌, Bool, true, false, nat_lt, cond, List, [], ◌∷◌, Option, Some, None, slice_get}
use Rattle.sv_types.specs.declared.types.SvType.{SvType, SvType-F, out-SvType}
use Rattle.pattern_fit.specs.declared.pattern.Rest.{Rest}
use Rattle.pattern_fit.specs.declared.pattern.Rest.TheVariants.{Absent}
use Rattle.expr_type.specs.Operands.{Operand}
use Rattle.expr_type.specs.Patterns.{rest_by}
use Rattle.pattern_types.specs.declared.operand.ItemKey.{ItemKey}
use Rattle.pattern_types.specs.Meaning.{is_default}

-- the number of the first item behind `default`
abbrev pub default_from : ℕ → List ItemKey → Option ℕ
default_from n [] = None
default_from n (key ∷ keys) = cond (is_default key) (Some n) (default_from (suc n) keys)

-- the number among all items of one that is numbered without the one behind `default`
abbrev pub past : Option ℕ → ℕ → ℕ
past None n = n
past (Some place) n = cond (nat_lt n place) n (n + 1)

abbrev pub rest_if : Option Operand → Rest
rest_if None = Absent
rest_if (Some v) = rest_by v

abbrev pub rest_at : List Operand → Option ℕ → Rest
rest_at vs None = Absent
rest_at vs (Some n) = rest_if (slice_get vs n)

abbrev pub is_scalar : SvType → Bool
is_scalar t = elim (out-SvType t) [
  | SvType-F.Scalar four s ↦ true
  | SvType-F.PackedArray l r s item ↦ false
  | SvType-F.Struct id packed s ms ↦ false
  | SvType-F.Union id s ms ↦ false
  | SvType-F.Enum id base names ↦ false
  | SvType-F.UnpackedArray l r item ↦ false
]
