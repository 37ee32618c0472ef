use Rattle.std.proofs.Common.{false, List, ◌++◌}
use Rattle.design_breaks.specs.declared.Break.{Break}
use Rattle.design_breaks.specs.Breaks as B
use Rattle.function_breaks.specs.Early as E
use Rattle.proc_rules.proofs.Tokens.{long-least}
use Rattle.proc_rules.proofs.functions.least_of_tokens.Goals as goal

pub returns : goal.returns
returns c =
    let d = c.args.design.now in
    let f = c.args.f.now in
    let i = f.instance in
    let left : List Break = B.at_each i 603 (B.result_left_out d f) in
    let local : List Break = B.at_each i 604 (E.local_early d f) in
    let early : List Break = B.at_each i 604 (E.result_early d f) in
    let later : List Break = B.at_each i 606 (B.deferred d false f.body) in
    let endless : List Break = B.at_each i 608 (B.endless_of d f.body) in
    let long : List Break = B.at_each i 703 (B.too_long d f.body f.spot.at) in
    c.lesser.ensures left (local ++ (early ++ (later ++ (endless ++ long)))) (c.break_at-5.ensures (B.result_left_out d f) c.requires.bits.left)
    (c.lesser-local.ensures local (early ++ (later ++ (endless ++ long))) (c.break_at-4.ensures (E.local_early d f) c.requires.bits.local)
    (c.lesser-early.ensures early (later ++ (endless ++ long)) (c.break_at-3.ensures (E.result_early d f) c.requires.bits.early)
    (c.lesser-later.ensures later (endless ++ long) (c.break_at-2.ensures (B.deferred d false f.body) c.requires.deferred)
    (c.lesser-endless.ensures endless long (c.break_at.ensures (B.endless_of d f.body) c.requires.loops.endless)
    (c.break_at-long.ensures (B.too_long d f.body f.spot.at) (long-least d f.body c.args.loops f.spot.at c.long_token.result c.requires.loops c.long_token.ensures))))))
