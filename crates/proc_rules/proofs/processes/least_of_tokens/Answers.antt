use Rattle.std.proofs.Common.{List, ◌++◌}
use Rattle.design_breaks.specs.declared.Break.{Break}
use Rattle.design_breaks.specs.Memories.{is_edged}
use Rattle.design_breaks.specs.Breaks as B
use Rattle.proc_rules.proofs.Tokens.{long-least}
use Rattle.proc_rules.proofs.processes.least_of_tokens.Goals as goal

pub returns : goal.returns
returns c =
    let d = c.args.design.now in
    let p = c.args.p.now in
    let i = p.instance in
    let drives : List Break = B.at_each i 601 (B.drives_a_value d p) in
    let left : List Break = B.at_each i 603 (B.left_out d p) in
    let early : List Break = B.at_each i 604 (B.read_early d p) in
    let local : List Break = B.at_each i 604 (B.local_early d p) in
    let at_once : List Break = B.at_each i 605 (B.at_once d p) in
    let deferred : List Break = B.at_each i 606 (B.deferred d (is_edged p.kind) p.body) in
    let edges : List Break = B.at_each i 607 (B.unfit_edges d p) in
    let endless : List Break = B.at_each i 608 (B.endless_of d p.body) in
    let input : List Break = B.at_each i 611 (B.writes_input d p) in
    let long : List Break = B.at_each i 703 (B.too_long d p.body p.spot.at) in
    c.lesser.ensures drives (left ++ (early ++ (local ++ (at_once ++ (deferred ++ (edges ++ (endless ++ (input ++ long)))))))) (c.break_at-9.ensures (B.drives_a_value d p) c.requires.bits.drives)
    (c.lesser-left.ensures left (early ++ (local ++ (at_once ++ (deferred ++ (edges ++ (endless ++ (input ++ long))))))) (c.break_at-8.ensures (B.left_out d p) c.requires.bits.left)
    (c.lesser-early.ensures early (local ++ (at_once ++ (deferred ++ (edges ++ (endless ++ (input ++ long)))))) (c.break_at-7.ensures (B.read_early d p) c.requires.bits.early)
    (c.lesser-local.ensures local (at_once ++ (deferred ++ (edges ++ (endless ++ (input ++ long))))) (c.break_at-6.ensures (B.local_early d p) c.requires.bits.local)
    (c.lesser-at_once.ensures at_once (deferred ++ (edges ++ (endless ++ (input ++ long)))) (c.break_at-5.ensures (B.at_once d p) c.requires.wrong.at_once)
    (c.lesser-deferred.ensures deferred (edges ++ (endless ++ (input ++ long))) (c.break_at-4.ensures (B.deferred d (is_edged p.kind) p.body) c.requires.wrong.deferred)
    (c.lesser-edges.ensures edges (endless ++ (input ++ long)) (c.break_at-3.ensures (B.unfit_edges d p) c.requires.unfit)
    (c.lesser-endless.ensures endless (input ++ long) (c.break_at-2.ensures (B.endless_of d p.body) c.requires.loops.endless)
    (c.lesser-input.ensures input long (c.break_at.ensures (B.writes_input d p) c.requires.bits.input)
    (c.break_at-long.ensures (B.too_long d p.body p.spot.at) (long-least d p.body c.args.loops p.spot.at c.long_token.result c.requires.loops c.long_token.ensures))))))))))
