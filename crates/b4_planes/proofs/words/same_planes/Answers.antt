use Rattle.std.proofs.Common.{ap, ◌∙◌}
use Rattle.b4_planes.specs.Planes.{plane_bits}
use Rattle.b4_planes.proofs.Aligned.{aligned}
use Rattle.b4_planes.proofs.Compared.{tell_words}
use Rattle.b4_planes.proofs.words.same_planes.Goals as goal

pub returns-then-same_words : goal.returns-then-same_words
returns-then-same_words c =
    let h = aligned c.args.a.now c.args.u.now c.args.b.now c.args.v.now c.requires.u c.requires.b c.requires.v in
    let first = c.same_words.ensures.0 c.if-same_words.true in (
      λ t. ap (λ l. plane_bits l c.args.u.now) first ∙ ap (plane_bits c.args.b.now) (c.same_words-then-same_words.ensures.0 t),
      λ e. c.same_words-then-same_words.ensures.1 (tell_words h c.type_inv.a c.type_inv.u c.type_inv.b c.type_inv.v e).1,
    )

pub returns-else-same_words : goal.returns-else-same_words
returns-else-same_words c =
    let h = aligned c.args.a.now c.args.u.now c.args.b.now c.args.v.now c.requires.u c.requires.b c.requires.v in (
      λ t. absurd (cc (t, c.if-same_words.false)),
      λ e. c.same_words.ensures.1 (tell_words h c.type_inv.a c.type_inv.u c.type_inv.b c.type_inv.v e).0,
    )
