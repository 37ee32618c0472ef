use Rattle.std.proofs.Common.{ap, arith}
use Rattle.sv_types.specs.Layouts.{width_of}
use Rattle.sv_types.proofs.Lengths.{width-Struct}
use Rattle.eval_parts.proofs.Members.{total_of}
use Rattle.function_breaks.proofs.results.members_of.Goals as goal

pub returns-in-Struct-clause-narrow : goal.returns-in-Struct-clause-narrow
returns-in-Struct-clause-narrow c =
    let all = ap total_of c.as_slice.ensures in
    let its = ap width_of c.in-Struct.is in
    let wide = width-Struct c.in-Struct.id c.in-Struct.packed c.in-Struct.signed c.in-Struct.members in
    omega (arith, all, its, wide, c.requires)
