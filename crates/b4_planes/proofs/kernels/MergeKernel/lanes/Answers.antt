use Rattle.std.proofs.Common.{refl, ◌∙◌, sym}
use Rattle.std.specs.Simd.Lanes.{zip2}
use Rattle.std.specs.Int.Bits.{bit_and, bit_or, bit_xor}
use Rattle.b4_planes.specs.Words.{merge_value, merge_unknown}
use Rattle.b4_planes.proofs.Aligned.{aligned, by_places}
use Rattle.b4_planes.proofs.kernels.MergeKernel.lanes.Goals as goal

pub returns-clause-value : goal.returns-clause-value
returns-clause-value c =
    by_places merge_value (λ la lu lb lv. zip2 bit_or (zip2 bit_and la lb) (zip2 bit_or (zip2 bit_xor la lb) (zip2 bit_or lu lv))) refl
    (λ a u b v la lu lb lv. refl)
    (aligned c.args.a c.args.u c.args.b c.args.v (c.requires.u ∙ sym c.requires.a) (c.requires.b ∙ sym c.requires.a) (c.requires.v ∙ sym c.requires.a))

pub returns-clause-unknown : goal.returns-clause-unknown
returns-clause-unknown c =
    by_places merge_unknown (λ la lu lb lv. zip2 bit_or (zip2 bit_xor la lb) (zip2 bit_or lu lv)) refl
    (λ a u b v la lu lb lv. refl)
    (aligned c.args.a c.args.u c.args.b c.args.v (c.requires.u ∙ sym c.requires.a) (c.requires.b ∙ sym c.requires.a) (c.requires.v ∙ sym c.requires.a))
