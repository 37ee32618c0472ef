use Rattle.std.proofs.Common.{refl, ◌∙◌, sym}
use Rattle.std.specs.Simd.Lanes.{zip2}
use Rattle.std.specs.Int.Bits.{bit_or, bit_xor}
use Rattle.b4_planes.specs.Words.{or_value, or_unknown}
use Rattle.b4_planes.proofs.Aligned.{aligned, by_places}
use Rattle.b4_planes.proofs.kernels.OrKernel.lanes.Goals as goal

pub returns-clause-value : goal.returns-clause-value
returns-clause-value c =
    by_places or_value (λ la lu lb lv. zip2 bit_or (zip2 bit_or la lu) (zip2 bit_or lb lv)) refl
    (λ a u b v la lu lb lv. refl)
    (aligned c.args.a c.args.u c.args.b c.args.v (c.requires.u ∙ sym c.requires.a) (c.requires.b ∙ sym c.requires.a) (c.requires.v ∙ sym c.requires.a))

pub returns-clause-unknown : goal.returns-clause-unknown
returns-clause-unknown c =
    by_places or_unknown (λ la lu lb lv. zip2 bit_xor (zip2 bit_or (zip2 bit_or lu lv) (zip2 bit_or (zip2 bit_xor (zip2 bit_or la lu) lu) (zip2 bit_xor (zip2 bit_or lb lv) lv))) (zip2 bit_or (zip2 bit_xor (zip2 bit_or la lu) lu) (zip2 bit_xor (zip2 bit_or lb lv) lv))) refl
    (λ a u b v la lu lb lv. refl)
    (aligned c.args.a c.args.u c.args.b c.args.v (c.requires.u ∙ sym c.requires.a) (c.requires.b ∙ sym c.requires.a) (c.requires.v ∙ sym c.requires.a))
