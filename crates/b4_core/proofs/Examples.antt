use Rattle.std.proofs.Common.{◌≡◌, negsuc, true, [], ◌∷◌, refl}
use Rattle.b4_core.specs.declared.bit.Bit4.TheVariants.{Zero, One, X, Z}
use Rattle.b4_core.specs.Bits.{and4}
use Rattle.b4_core.specs.Vectors.{num, snum, vec, ext, bitwise}

minus_two : vec 4 (negsuc 1) ≡ Zero ∷ One ∷ One ∷ One ∷ []
minus_two = refl

minus_nine : vec 3 (negsuc 8) ≡ One ∷ One ∷ One ∷ []
minus_nine = refl

ten : num (Zero ∷ One ∷ Zero ∷ One ∷ []) ≡ 10
ten = refl

minus_six : snum (Zero ∷ One ∷ Zero ∷ One ∷ []) ≡ negsuc 5
minus_six = refl

widened : ext 5 true (Zero ∷ One ∷ X ∷ []) ≡ Zero ∷ One ∷ X ∷ X ∷ X ∷ []
widened = refl

cut : ext 2 true (Zero ∷ One ∷ X ∷ []) ≡ Zero ∷ One ∷ []
cut = refl

masked : bitwise and4 (Zero ∷ One ∷ X ∷ []) (Z ∷ One ∷ Zero ∷ []) ≡ Zero ∷ One ∷ Zero ∷ []
masked = refl
