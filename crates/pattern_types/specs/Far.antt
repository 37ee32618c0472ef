-- Indices that no element of an array can have.
use Rattle.std.specs.Prelude.{◌≡◌, ◌<◌, ℕ, Bool, true, false, ◌&&◌}
use Rattle.sv_types.specs.declared.types.Member.{Member}
use Rattle.sv_types.specs.declared.types.SvType.{SvType, SvType-F, out-SvType}
use Rattle.pattern_types.specs.Keys.{is_near}

abbrev pub near_in : SvType-F SvType Member → Bool
near_in (SvType-F.Scalar four s) = true
near_in (SvType-F.PackedArray l r s item) = is_near l && is_near r
near_in (SvType-F.Struct id packed s ms) = true
near_in (SvType-F.Union id s ms) = true
near_in (SvType-F.Enum id base names) = true
near_in (SvType-F.UnpackedArray l r item) = is_near l && is_near r

abbrev pub near_bounds : SvType → Bool
near_bounds t = near_in (out-SvType t)

-- keys that are taken some times, of which one is far
pub record IsTakenFar (near : Bool) (times : ℕ) : Type 0 where
  pub some : 0 < times
  pub far : near ≡ false
