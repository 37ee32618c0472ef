use Rattle.typing_patterns.specs.Sized.{size_of}
use Rattle.typing_patterns.proofs.Crossing.{by-size-types}
use Rattle.typing_patterns.proofs.sizes.by_size.Goals as goal

pub returns-clause-value : goal.returns-clause-value
returns-clause-value g c =
    let k = g.S.Names.context c.args.names.now in
    λ x fs h. by-size-types k c.args.first x c.args.cast.now c.sized.result fs c.sized.new.known.functions (c.sized.ensures.value (size_of k.source x) fs (c.size_by-bits.ensures x fs h))
