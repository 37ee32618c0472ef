use Rattle.std.proofs.Common.{◌∙◌}
use Rattle.sv_types.specs.Layouts.{layout}
use Rattle.eval_parts.specs.Places.{window_of}
use Rattle.eval_stmts.proofs.Assigning.{if-ok}
use Rattle.eval_runs.proofs.Entering.{last-is}
use Rattle.eval_runs.proofs.bodies.last_of.Goals as goal

pub returns : goal.returns
returns c =
    if-ok
    (λ v is.
    is ∙ last-is c.args.number c.width.result c.width-2.result (layout c.args.of.now).two_state (window_of c.entire.result) c.as_slice.result.now c.as_slice-2.result.now c.args.env.now c.in_ok-bits.bits c.entire.ensures.window c.width.ensures.bits
    c.width-2.ensures.bits c.as_slice.ensures.value c.as_slice-2.ensures.value c.in_ok-bits.ensures)
    c.store.result c.store.ensures
