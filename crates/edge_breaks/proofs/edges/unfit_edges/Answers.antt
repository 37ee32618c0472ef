use Rattle.std.proofs.Common.{ap, ◌∙◌, None}
use Rattle.edge_breaks.specs.Links.{least_unfit}
use Rattle.edge_breaks.proofs.Unfit.{unfit-law}
use Rattle.edge_breaks.proofs.edges.unfit_edges.Goals as goal

pub returns-in-Edges : goal.returns-in-Edges
returns-in-Edges c =
    unfit-law c.args.signals.now c.args.joined.now c.args.process.now c.in-Edges.edges c.least_unfit.result c.in-Edges.is
    (c.least_unfit.ensures ∙ ap (least_unfit c.args.signals.now c.args.joined.now None) c.as_slice.ensures)
