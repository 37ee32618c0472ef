use Rattle.std.proofs.Common.{◌≡◌, ◌++◌, List, append_assoc, sym, ap, subst, ◌∙◌}
use Rattle.std.specs.Prelude.{OnOk, map}
use Rattle.sv_tree.specs.declared.items.CaseGenerateItem.{CaseGenerateItem}
use Rattle.sv_tree.specs.declared.items.Item.{Item}
use Rattle.expr_type.specs.Routines.{Routines, joined, item_routines}
use Rattle.source_routines.specs.Texts.{texts, block_routines, else_routines, choice_routines, items_routines, choices_routines}
use Rattle.source_routines.proofs.Walking.{joined-map, at-block, at-generate, at-case, at-if}
use Rattle.source_routines.proofs.walk.+item.Goals as goal

pub block-returns-in-Block : goal.block-returns-in-Block
block-returns-in-Block t c =
    let same : items_routines c.as_slice.result.now ≡ block_routines c.args.one.now =
    joined-map item_routines c.as_slice.result.now
    ∙ ap (λ (xs : List Item). joined (map item_routines xs)) c.as_slice.ensures
    ∙ sym (at-block c.in-Block.begin c.in-Block.label c.in-Block.list c.in-Block.end c.in-Block.end_label)
    ∙ ap block_routines (sym c.in-Block.is) in
    subst (λ (rs : Routines). OnOk c.items.result (texts c.items.new.to ≡ texts c.args.to.now ++ rs)) same c.items.ensures

pub item-returns-in-Generate : goal.item-returns-in-Generate
item-returns-in-Generate t c =
    let same : items_routines c.as_slice.result.now ≡ item_routines c.args.one.now =
    joined-map item_routines c.as_slice.result.now
    ∙ ap (λ (xs : List Item). joined (map item_routines xs)) c.as_slice.ensures
    ∙ sym (at-generate c.in-Generate.keyword c.in-Generate.list c.in-Generate.end)
    ∙ ap item_routines (sym c.in-Generate.is) in
    subst (λ (rs : Routines). OnOk c.items.result (texts c.items.new.to ≡ texts c.args.to.now ++ rs)) same c.items.ensures

pub item-returns-in_ok-block-in-IfGenerate : goal.item-returns-in_ok-block-in-IfGenerate
item-returns-in_ok-block-in-IfGenerate t c =
    let first : texts c.block-in-IfGenerate.new.to ≡ texts c.args.to.now ++ block_routines c.in-IfGenerate.body =
    c.in_ok-block-in-IfGenerate.ensures ∙ ap (λ b. texts c.args.to.now ++ block_routines b) c.get-in-IfGenerate.ensures in
    let same : texts c.block-in-IfGenerate.new.to ++ else_routines c.in-IfGenerate.other ≡ texts c.args.to.now ++ item_routines c.args.one.now =
    ap (λ rs. rs ++ else_routines c.in-IfGenerate.other) first
    ∙ append_assoc (texts c.args.to.now) (block_routines c.in-IfGenerate.body) (else_routines c.in-IfGenerate.other)
    ∙ ap (λ rs. texts c.args.to.now ++ rs)
    (sym (at-if c.in-IfGenerate.keyword c.in-IfGenerate.opening c.in-IfGenerate.test c.in-IfGenerate.closing c.in-IfGenerate.body c.in-IfGenerate.other) ∙ ap item_routines (sym c.in-IfGenerate.is)) in
    subst (λ (rs : Routines). OnOk c.else_branch.result (texts c.else_branch.new.to ≡ rs)) same c.else_branch.ensures

pub item-returns-in-CaseGenerate : goal.item-returns-in-CaseGenerate
item-returns-in-CaseGenerate t c =
    let same : choices_routines c.as_slice-in-CaseGenerate.result.now ≡ item_routines c.args.one.now =
    joined-map choice_routines c.as_slice-in-CaseGenerate.result.now
    ∙ ap (λ (xs : List CaseGenerateItem). joined (map choice_routines xs)) c.as_slice-in-CaseGenerate.ensures
    ∙ sym (at-case c.in-CaseGenerate.keyword c.in-CaseGenerate.opening c.in-CaseGenerate.value c.in-CaseGenerate.closing c.in-CaseGenerate.list c.in-CaseGenerate.end)
    ∙ ap item_routines (sym c.in-CaseGenerate.is) in
    subst (λ (rs : Routines). OnOk c.choices.result (texts c.choices.new.to ≡ texts c.args.to.now ++ rs)) same c.choices.ensures
