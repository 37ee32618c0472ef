use Rattle.std.proofs.Common.{◌≡◌, subst, IfOk}
use Rattle.sv_types.specs.declared.types.SvType.{SvType}
use Rattle.expr_type.specs.KeywordTypes as written
use Rattle.type_texts.proofs.Elements.{element-unsigned}
use Rattle.type_texts.proofs.keywords.bits_under.Goals as goal

pub returns-in_ok-element-in-len1-up : goal.returns-in_ok-element-in-len1-up
returns-in_ok-element-in-len1-up c =
    let made = c.in_ok-element-in-len1-up in
    subst (λ (x : SvType). IfOk c.packed.result (λ t. t ≡ x))
    (element-unsigned c.args.signed c.args.dims.now (written.plain c.args.four c.args.bits) made.element c.in-len1-up.len_at_least made.ensures)
    c.packed.ensures
