-- How long stored vectors are.
use Rattle.std.proofs.Common.{◌≡◌, suc, Bool, List, [], ◌∷◌, length, refl, ap, arith}
use Rattle.b4_core.specs.declared.bit.Bit4.{Bit4}
use Rattle.sv_types.specs.Layouts.{stored, default_bits}

pub length-stored : (marks : List Bool) (v : List Bit4) → length v ≡ length marks → length (stored marks v) ≡ length marks
length-stored [] v h = refl
length-stored (m ∷ marks) [] h = absurd (omega arith)
length-stored (m ∷ marks) (b ∷ v) h = ap suc (length-stored marks v (omega arith))

pub length-default_bits : (marks : List Bool) → length (default_bits marks) ≡ length marks
length-default_bits [] = refl
length-default_bits (m ∷ marks) = ap suc (length-default_bits marks)

pub ruleset storing = (length-stored, length-default_bits)
