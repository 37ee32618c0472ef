use Rattle.std.proofs.Common.{sym, ◌∙◌}
use Rattle.action_breaks.proofs.Lesser.{wrong-edged, wrong-other}
use Rattle.action_breaks.proofs.rules.process_wrong.Goals as goal

pub returns-then-waits_for_edges : goal.returns-then-waits_for_edges
returns-then-waits_for_edges c = λ d same.
    wrong-edged d c.args.process.now c.misuse_of-misuse.result c.lesser_token.result (sym c.waits_for_edges.ensures ∙ c.if-waits_for_edges.true) (c.misuse_of-misuse.ensures d same) c.lesser_token.ensures

pub returns : goal.returns
returns c = λ d same. wrong-other d c.args.process.now c.misuse_of-misuse.result (sym c.waits_for_edges.ensures ∙ c.if-waits_for_edges.false) (c.misuse_of-misuse.ensures d same)
