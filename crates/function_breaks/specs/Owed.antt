-- The bits that a function is to write, as uses of the numbers that stand for them.
use Rattle.std.specs.Prelude.{ℕ, ◌+◌, min, Bool, true, false, cond, List, [], ◌∷◌, map, reverse}
use Rattle.bit_sets.specs.declared.span.Use.{Use}
use Rattle.flow_sets.specs.Bits.{use_of}
use Rattle.sv_source.specs.declared.token.Spot.{Spot}
use Rattle.sv_types.specs.declared.statement.Formal.{Formal}
use Rattle.sv_types.specs.declared.statement.Function.{Function}
use Rattle.sv_types.specs.declared.statement.FunctionKind.{FunctionKind}
use Rattle.sv_types.specs.declared.statement.FunctionKind.TheVariants.{Plain, Routine, Made}
use Rattle.sv_types.specs.declared.statement.Way.{Way}
use Rattle.sv_types.specs.declared.statement.Way.TheVariants as W
use Rattle.sv_types.specs.declared.types.Member.{Member}
use Rattle.sv_types.specs.declared.types.SvType.{SvType, SvType-F, out-SvType}
use Rattle.sv_types.specs.Layouts.{width_of}
use Rattle.sv_types.specs.Surroundings.{local_number}

abbrev pub local_use : ℕ → ℕ → ℕ → ℕ → Use
local_use n low high at = use_of (record { number = local_number n; low = low; high = high; at = at })

abbrev pub is_output : Way → Bool
is_output W.Input = false
is_output W.Output = true
is_output W.Inout = false

abbrev pub formal_uses : List Formal → List Use
formal_uses [] = []
formal_uses (p ∷ ps) = cond (is_output p.way) (local_use p.local.number 0 (width_of p.local.of) p.spot.at ∷ formal_uses ps) (formal_uses ps)

-- parts of a result of these widths, from the bit `low` up to `end`
abbrev pub member_uses : ℕ → ℕ → List ℕ → List Spot → List Use
member_uses end low ws [] = []
member_uses end low [] (s ∷ ss) = []
member_uses end low (w ∷ ws) (s ∷ ss) = local_use 0 low (min (low + w) end) s.at ∷ member_uses end (min (low + w) end) ws ss

-- the widths of the members of a struct, the last one first
abbrev pub member_widths : SvType → List ℕ
member_widths t = elim (out-SvType t) [
  | SvType-F.Scalar four s ↦ []
  | SvType-F.PackedArray l r s i ↦ []
  | SvType-F.Struct id packed s ms ↦ reverse (map (λ (m : Member). width_of m.of) ms)
  | SvType-F.Union id s ms ↦ []
  | SvType-F.Enum id base names ↦ []
  | SvType-F.UnpackedArray l r i ↦ []
]

abbrev pub made_uses : SvType → List Spot → List Use
made_uses t spots = member_uses (width_of t) 0 (member_widths t) (reverse spots)

abbrev pub uses_by : FunctionKind → Function → List Use
uses_by Plain f = local_use 0 0 (width_of f.of) f.spot.at ∷ []
uses_by Routine f = formal_uses f.formals
uses_by (Made spots) f = made_uses f.of spots

abbrev pub owed_uses : Function → List Use
owed_uses f = uses_by f.kind f
