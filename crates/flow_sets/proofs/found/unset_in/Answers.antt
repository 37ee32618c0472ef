use Rattle.std.proofs.Common.{◌++◌, ◌∙◌, ap}
use Rattle.sv_types.specs.Surroundings.{local_number}
use Rattle.flow_sets.specs.Bits.{span_of}
use Rattle.flow_sets.specs.Uses.{met}
use Rattle.flow_sets.proofs.Locals as L
use Rattle.flow_sets.proofs.found.unset_in.Goals as goal

pub returns-clause-flow : goal.returns-clause-flow
returns-clause-flow c = λ g marks wide h.
    L.unset-is c.in_ok-unset.unset c.args.f g c.args.local c.args.width marks c.ranges.width.fits wide
    (c.in_ok-unset.ensures ∙ ap (λ s. c.args.f.unset ++ met s c.as_slice.result.now) c.local_span.ensures ∙ ap (λ us. c.args.f.unset ++ met (span_of (record { number = local_number c.args.local; low = 0; high = c.args.width; at = 0 })) us) c.as_slice.ensures) h
