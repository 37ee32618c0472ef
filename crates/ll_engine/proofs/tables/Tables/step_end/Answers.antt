use Rattle.std.proofs.Common.{◌∷◌, map, reverse, sym, ◌∙◌, ap, subst}
use Rattle.ll_engine.specs.Machine.{level_of, levels_of, with_kid}
use Rattle.ll_engine.specs.declared.tree.Tree.TheVariants.{Node}
use Rattle.ll_engine.specs.Steps.{IsMove}
use Rattle.ll_engine.proofs.Parts.{below_push}
use Rattle.ll_engine.proofs.Steps.{move_close}
use Rattle.ll_engine.proofs.tables.Tables.step_end.Goals as goal

pub returns-in_ok-close-in-Some : goal.returns-in_ok-close-in-Some
returns-in_ok-close-in-Some c =
    let t = c.args.self.now.rows in
    let heads = c.args.self.now.heads in
    let outer = c.in-Some.outer in
    let top = level_of t c.args.state.now.top in
    let below = map (level_of t) (reverse c.pop.new.self.items) in
    let e = ap (λ q. map (level_of t) (reverse q)) c.in-Some.ensures.items ∙ below_push t c.pop.new.self.items outer in
    let new = ap (λ q. q ∷ map (level_of t) (reverse c.close.new.state.below.items)) c.in_ok-close-in-Some.ensures.top
    ∙ ap (λ q. with_kid (level_of t outer) (Node c.args.state.now.top.row c.args.state.now.top.kids) ∷ map (level_of t) (reverse q.items)) c.close.ensures.below in
    subst (λ q. IsMove t heads c.args.token (top ∷ q) (levels_of t c.close.new.state)) (sym e)
    (move_close t heads c.requires.knows top (level_of t outer) below (levels_of t c.close.new.state) c.args.token c.requires.next new)
