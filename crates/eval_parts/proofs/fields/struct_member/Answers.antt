use Rattle.std.proofs.Common.{◌+◌, ◌≤◌, drop, ap, sym, subst, ◌∙◌, arith}
use Rattle.std.specs.Int.{w128}
use Rattle.std.proofs.lemmas.Int.{to_z_pos}
use Rattle.picks.specs.Windows.{part}
use Rattle.eval_parts.specs.Places.{window_of}
use Rattle.eval_parts.proofs.Members.{total_of, rest-of, behind-narrow, struct-part}
use Rattle.eval_parts.proofs.fields.struct_member.Goals as goal

pub total_width-below-requires : goal.total_width-below-requires
total_width-below-requires c =
    let ms = c.args.members.now in
    let h : total_of (drop (c.args.k + 1) ms) ≤ 4194304 = omega (arith, behind-narrow ms (c.args.k + 1), c.requires.narrow) in
    subst (λ xs. total_of xs ≤ 4194304) (sym (rest-of ms (c.args.k + 1))) h

pub returns-clause-window : goal.returns-clause-window
returns-clause-window c =
    let ms = c.args.members.now in
    c.part_of.ensures.window ∙ ap (λ o. part o c.width.result (window_of c.args.path)) (to_z_pos w128 c.total_width-below.result (omega arith))
    ∙ struct-part ms c.args.k c.total_width-below.result c.width.result c.index-members-k.result (window_of c.args.path) (omega arith) c.index-members-k.is (c.total_width-below.ensures ∙ ap total_of (rest-of ms (c.args.k + 1))) c.width.ensures.bits
