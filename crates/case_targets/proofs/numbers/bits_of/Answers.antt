use Rattle.std.proofs.Common.{◌≡◌, length, arith, ap, ◌∙◌}
use Rattle.sv_types.proofs.OperatorLengths.{length-vec}
use Rattle.case_targets.proofs.numbers.bits_of.Goals as goal

pub index_of-requires : goal.index_of-requires
index_of-requires c =
    let long : length c.in_ok-bits.bits ≡ c.args.i.now.width = ap length c.in_ok-bits.ensures ∙ length-vec c.args.i.now.width _ in
    omega (arith, long, c.requires.short)
