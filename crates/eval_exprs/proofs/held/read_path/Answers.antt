use Rattle.std.proofs.Common.{arith, ap, ◌∙◌}
use Rattle.b4_core.specs.Vectors.{ext}
use Rattle.eval_parts.specs.Picks.{picked, tabulated}
use Rattle.sv_types.specs.Layouts.{layout, stored}
use Rattle.sv_types.proofs.Widths.{wide-widest}
use Rattle.eval_parts.specs.Places.{window_of, bit_of, bit_or_x}
use Rattle.eval_parts.specs.Surroundings.{now_of}
use Rattle.eval_parts.proofs.TypeKinds.{wide-is}
use Rattle.eval_exprs.proofs.held.read_path.Goals as goal

pub store-requires : goal.store-requires
store-requires c = let e = c.args.e.now in omega (arith, wide-widest e, wide-is e, c.requires.narrow)

pub returns : goal.returns
returns c =
    let e = c.args.e.now in
    let f = c.args.found.now in
    c.in_ok-extended.ensures
    ∙ ap (ext c.args.width c.args.signed)
    (
    c.in_ok-stored.ensures ∙ ap (stored (layout e.of).two_state)
    (
    c.in_ok-bits.ensures
    ∙ ap (λ n. tabulated n (λ j. bit_or_x (bit_of f.root (now_of c.args.held.signals.now c.args.held.locals.now)) (picked (window_of f.window) j))) (c.own_width.ensures ∙ wide-is e)
    )
    )
