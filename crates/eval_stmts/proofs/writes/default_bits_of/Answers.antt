use Rattle.std.proofs.Common.{◌∙◌, ap, replicate}
use Rattle.b4_core.specs.declared.bit.Bit4.TheVariants.{X}
use Rattle.sv_types.specs.Layouts.{layout, stored}
use Rattle.eval_stmts.proofs.Assigning as A
use Rattle.eval_stmts.proofs.writes.default_bits_of.Goals as goal

pub returns : goal.returns
returns c =
    let marks = (layout c.args.of.now).two_state in
    A.if-ok (λ v is. is ∙ ap (stored marks) (c.in_ok-filled.ensures ∙ ap (λ n. replicate n X) c.width.ensures.bits) ∙ A.all-default marks) c.store.result c.store.ensures
