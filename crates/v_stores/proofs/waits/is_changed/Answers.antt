use Rattle.std.proofs.Common.{length, ap, sym, ◌∙◌, arith}
use Rattle.v_stores.proofs.Waiting.{same-length}
use Rattle.v_stores.proofs.waits.is_changed.Goals as goal

pub first_difference-requires : goal.first_difference-requires
first_difference-requires c = ap length c.as_slice.ensures ∙ same-length c.args.now.now c.args.was.now c.args.n c.index-now-n.result c.index-was-n.result c.requires (omega (arith, c.if-n-now.false)) (omega (arith, c.if-n-was.false)) c.index-now-n.is c.index-was-n.is ∙ sym (ap length c.as_slice-2.ensures)
