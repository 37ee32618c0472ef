use Rattle.std.proofs.Common.{refl, ◌∙◌, sym}
use Rattle.std.specs.Simd.Lanes.{zip2}
use Rattle.std.specs.Int.Bits.{bit_or, bit_xor}
use Rattle.b4_planes.specs.Words.{one_of}
use Rattle.b4_planes.proofs.Aligned.{aligned, by_pairs}
use Rattle.b4_planes.proofs.kernels.TwoStateValueKernel.lanes.Goals as goal

pub returns : goal.returns
returns c =
    by_pairs one_of (λ la lu. zip2 bit_xor (zip2 bit_or la lu) lu) refl (λ a u la lu. refl)
    (aligned c.args.a c.args.u c.args.a c.args.u (c.requires.u ∙ sym c.requires.a) refl (c.requires.u ∙ sym c.requires.a))
