use Rattle.std.proofs.Common.{◌≡◌, ◌++◌, ◌+◌, Some, None, [], drop, refl, sym, ap, ◌∙◌}
use Rattle.std.specs.Option.{option_or}
use Rattle.v_tree.specs.Names.{among}
use Rattle.sv2v_top.specs.source.Statements.{targets}
use Rattle.sv2v_top.specs.source.Rules.{writes_break, always_written, target_words, processes_break}
use Rattle.sv2v_top.proofs.Checks.{drop-here}
use Rattle.sv2v_top.proofs.elab_build.rules.process_break.Goals as goal

pub loop-item-init : goal.loop-item-init
loop-item-init c = ([], c.new-written.ensures, refl)

pub returns-in-Some : goal.returns-in-Some
returns-in-Some c =
    let ws = c.loop-item.invariant.0 in
    let i = c.loop-item.item-index in
    let x = c.item-item.result in
    let items = c.args.items.now in
    let after_ = c.in_ok-refusal.ensures ws c.loop-item.invariant.1 in
    let first : writes_break (among ws) (among (always_written x)) (targets x) ≡ Some c.in-Some.refusal = sym after_.first ∙ c.in-Some.is in
    let here : processes_break ws (drop i items) ≡ Some c.in-Some.refusal =
    ap (processes_break ws) (drop-here items i x c.loop-item-test.true c.item-item.is) ∙ ap (λ o. option_or o (processes_break (ws ++ target_words x) (drop (i + 1) items))) first in
    sym here ∙ c.loop-item.invariant.2

pub loop-item-preserved : goal.loop-item-preserved
loop-item-preserved c =
    let ws = c.loop-item.invariant.0 in
    let i = c.loop-item.item-index in
    let x = c.item-item.result in
    let items = c.args.items.now in
    let after_ = c.in_ok-refusal.ensures ws c.loop-item.invariant.1 in
    let first : writes_break (among ws) (among (always_written x)) (targets x) ≡ None = sym after_.first ∙ c.in_default.is in
    let later : processes_break ws (drop i items) ≡ processes_break (ws ++ target_words x) (drop (i + 1) items) =
    ap (processes_break ws) (drop-here items i x c.loop-item-test.true c.item-item.is) ∙ ap (λ o. option_or o (processes_break (ws ++ target_words x) (drop (i + 1) items))) first in
    (ws ++ target_words x, after_.table_is, sym later ∙ c.loop-item.invariant.2)
