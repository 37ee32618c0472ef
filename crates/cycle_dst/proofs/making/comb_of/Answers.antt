use Rattle.std.proofs.Common.{get_or, map, ap}
use Rattle.std.proofs.lemmas.Option.{slice_get-get_or}
use Rattle.v_processes.specs.declared.process.Does.{Does}
use Rattle.v_processes.specs.Processes.{does_in, edge_of}
use Rattle.cycle_dst.proofs.Collected.{made-always, made-none, made-star, star-of}
use Rattle.cycle_dst.proofs.making.comb_of.Goals as goal

pub returns-in-Assign-clause-made : goal.returns-in-Assign-clause-made
returns-in-Assign-clause-made c =
    let ps = c.args.ground.procs.now in
    made-always c.args.ground c.args.k (get_or ps c.args.k c.index-ground-k.result) c.always.result (slice_get-get_or ps c.args.k c.index-ground-k.result c.requires.there)
    (λ sc. ap (λ (d : Does). (does_in d sc).starts) c.in-Assign.is) c.always.ensures.process c.always.ensures.from_zero c.always.ensures.waits

pub returns-in-Into-clause-made : goal.returns-in-Into-clause-made
returns-in-Into-clause-made c =
    let ps = c.args.ground.procs.now in
    made-always c.args.ground c.args.k (get_or ps c.args.k c.index-ground-k.result) c.always-in-Into.result (slice_get-get_or ps c.args.k c.index-ground-k.result c.requires.there)
    (λ sc. ap (λ (d : Does). (does_in d sc).starts) c.in-Into.is) c.always-in-Into.ensures.process c.always-in-Into.ensures.from_zero c.always-in-Into.ensures.waits

pub returns-in-From-clause-made : goal.returns-in-From-clause-made
returns-in-From-clause-made c =
    let ps = c.args.ground.procs.now in
    made-always c.args.ground c.args.k (get_or ps c.args.k c.index-ground-k.result) c.always-in-From.result (slice_get-get_or ps c.args.k c.index-ground-k.result c.requires.there)
    (λ sc. ap (λ (d : Does). (does_in d sc).starts) c.in-From.is) c.always-in-From.ensures.process c.always-in-From.ensures.from_zero c.always-in-From.ensures.waits

pub returns-in-Edges-clause-made : goal.returns-in-Edges-clause-made
returns-in-Edges-clause-made c =
    let ps = c.args.ground.procs.now in
    made-none c.args.ground c.args.k (get_or ps c.args.k c.index-ground-k.result) (map edge_of c.in-Edges.edges) (slice_get-get_or ps c.args.k c.index-ground-k.result c.requires.there)
    (λ sc. ap (λ (d : Does). (does_in d sc).starts) c.in-Edges.is)

pub star-requires-clause-body : goal.star-requires-clause-body
star-requires-clause-body c =
    let ps = c.args.ground.procs.now in
    star-of c.args.ground c.args.k (get_or ps c.args.k c.index-ground-k.result) c.in-Star.body.now (slice_get-get_or ps c.args.k c.index-ground-k.result c.requires.there)
    (λ sc. ap (λ (d : Does). does_in d sc) c.in-Star.is)

pub returns-in_ok-comb-in-Star-clause-made : goal.returns-in_ok-comb-in-Star-clause-made
returns-in_ok-comb-in-Star-clause-made c =
    let ps = c.args.ground.procs.now in
    made-star c.args.ground c.args.k (get_or ps c.args.k c.index-ground-k.result) c.in_ok-comb-in-Star.comb (slice_get-get_or ps c.args.k c.index-ground-k.result c.requires.there)
    (λ sc. ap (λ (d : Does). (does_in d sc).starts) c.in-Star.is) c.in_ok-comb-in-Star.ensures.made
