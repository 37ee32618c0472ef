-- What a pattern is given to, type by type.
use Rattle.std.proofs.Common.{◌≡◌, ℕ, Bool, ℤ, List, rules}
use Rattle.sv_types.specs.declared.types.SvType.{SvType, the_lemmas}
use Rattle.sv_types.specs.declared.types.SvType.TheVariants.{PackedArray, Struct, UnpackedArray}
use Rattle.sv_types.specs.declared.types.Member.{Member}
use Rattle.pattern_fit.specs.declared.pattern.Pattern.{Pattern}
use Rattle.pattern_fit.specs.Fits.{fits, fit_in, array_places, struct_places}

pub fits-Struct : (id : ℕ) (packed s : Bool) (ms : List Member) (p : Pattern) → fits (Struct id packed s ms) p ≡ fit_in p (struct_places ms)
fits-Struct id packed s ms p = search (rules, the_lemmas)

pub fits-PackedArray : (left right : ℤ) (s : Bool) (item : SvType) (p : Pattern) → fits (PackedArray left right s item) p ≡ fit_in p (array_places left right item)
fits-PackedArray left right s item p = search (rules, the_lemmas)

pub fits-UnpackedArray : (left right : ℤ) (item : SvType) (p : Pattern) → fits (UnpackedArray left right item) p ≡ fit_in p (array_places left right item)
fits-UnpackedArray left right item p = search (rules, the_lemmas)
