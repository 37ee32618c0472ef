use Rattle.std.proofs.Common.{length, replicate, refl, ◌∙◌, sym, ap}
use Rattle.std.specs.Simd.Lanes.{zip2}
use Rattle.std.specs.Int.Bits.{bit_or, bit_xor}
use Rattle.b4_planes.specs.Words.{not_value}
use Rattle.b4_planes.proofs.Aligned.{aligned, by_pairs}
use Rattle.b4_planes.proofs.kernels.NotValueKernel.lanes.Goals as goal

pub returns : goal.returns
returns c =
    ap (λ n. zip2 bit_or (zip2 bit_xor c.args.a (replicate n 0xffff_ffff_ffff_ffff)) c.args.u) (sym c.requires.a)
    ∙ by_pairs not_value (λ la lu. zip2 bit_or (zip2 bit_xor la (replicate (length la) 0xffff_ffff_ffff_ffff)) lu) refl (λ a u la lu. refl)
    (aligned c.args.a c.args.u c.args.a c.args.u (c.requires.u ∙ sym c.requires.a) refl (c.requires.u ∙ sym c.requires.a))
