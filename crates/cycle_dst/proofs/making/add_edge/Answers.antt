use Rattle.std.proofs.Common.{◌+◌, ◌∙◌, take, sym, subst, get_or}
use Rattle.std.proofs.lemmas.Option.{slice_get-get_or}
use Rattle.cycle_dst.specs.Grounds.{EdgesOf, edges_among}
use Rattle.cycle_dst.proofs.Collected.{edge-more, edge-none}
use Rattle.cycle_dst.proofs.Running.{where-ok}
use Rattle.cycle_dst.proofs.making.add_edge.Goals as goal

pub returns-then-at_edges : goal.returns-then-at_edges
returns-then-at_edges c =
    let g = c.args.ground in
    where-ok c.push.result
    (λ is. record {
      added = λ before.
          subst (λ ks. EdgesOf g ks (edges_among g (take (c.args.k + 1) g.procs.now))) (sym is)
          (edge-more g c.requires.ground c.args.k c.args.edges.now (get_or g.procs.now c.args.k c.index-ground-k.result) c.requires.there (slice_get-get_or g.procs.now c.args.k c.index-ground-k.result c.requires.there)
          (sym c.at_edges.ensures ∙ c.if-at_edges.true) before);
    })
    c.push.ensures.ok

pub returns-else-at_edges : goal.returns-else-at_edges
returns-else-at_edges c =
    let g = c.args.ground in
    record {
      added =
          edge-none g c.requires.ground c.args.k c.args.edges.now (get_or g.procs.now c.args.k c.index-ground-k.result) c.requires.there (slice_get-get_or g.procs.now c.args.k c.index-ground-k.result c.requires.there)
          (sym c.at_edges.ensures ∙ c.if-at_edges.false);
    }
