use Rattle.std.proofs.Common.{◌≡◌, sym, ap, subst, ◌∙◌}
use Rattle.std.specs.Option.{option_copied}
use Rattle.expr_type.specs.Names.{Thing, thing_of}
use Rattle.typing_parts.specs.Things.{StandsFor}
use Rattle.typing_scopes.specs.Ranks.{rank}
use Rattle.typing_scopes.specs.Scopes.{lists}
use Rattle.typing_scopes.proofs.Finding as F
use Rattle.typing_scopes.proofs.Finding.{rank-stands}
use Rattle.typing_scopes.proofs.scope.Scope.thing_of.Goals as goal

pub returns-in-Some : goal.returns-in-Some
returns-in-Some g c =
    F.thing-local (g.B.Names.context c.args.self.now.base.now) (lists c.args.self.now.level) (option_copied c.args.self.now.result) c.args.declaration c.in-Some.local.now
    (sym (ap option_copied c.in-Some.is) ∙ c.local.ensures)

pub returns-then-rank-eq0 : goal.returns-then-rank-eq0
returns-then-rank-eq0 g c =
    let k = g.B.Names.context c.args.self.now.base.now in
    let of = rank-stands c.args.around (thing_of k c.args.declaration) c.requires in
    let is : rank (thing_of k c.args.declaration) ≡ 0 = sym (c.rank-rank.ensures ∙ of) ∙ c.if-rank-eq0.true in
    subst (λ (t : Thing). StandsFor c.args.around t)
    (F.local-kept k (lists c.args.self.now.level) (option_copied c.args.self.now.result) c.args.declaration (sym (ap option_copied c.in_default.is) ∙ c.local.ensures) is) c.requires

pub returns-in-Some-value : goal.returns-in-Some-value
returns-in-Some-value g c =
    let k = g.B.Names.context c.args.self.now.base.now in
    let of = rank-stands c.args.around (thing_of k c.args.declaration) c.requires in
    F.thing-value k (lists c.args.self.now.level) (option_copied c.args.self.now.result) c.args.declaration c.in-Some-value.value.now (sym (ap option_copied c.in_default.is) ∙ c.local.ensures)
    (sym (ap option_copied c.in-Some-value.is) ∙ c.value.ensures) (λ e. c.if-rank-eq0.false (c.rank-rank.ensures ∙ of ∙ e))

pub returns-then-rank-eq1 : goal.returns-then-rank-eq1
returns-then-rank-eq1 g c =
    let k = g.B.Names.context c.args.self.now.base.now in
    let of = rank-stands c.args.around (thing_of k c.args.declaration) c.requires in
    let is : rank (thing_of k c.args.declaration) ≡ 1 = sym (c.rank-rank.ensures ∙ of) ∙ c.if-rank-eq1.true in
    subst (λ (t : Thing). StandsFor c.args.around t)
    (F.value-kept k (lists c.args.self.now.level) (option_copied c.args.self.now.result) c.args.declaration (sym (ap option_copied c.in_default.is) ∙ c.local.ensures)
    (sym (ap option_copied c.in_default-value.is) ∙ c.value.ensures) is)
    c.requires

pub returns-in-Some-named_type : goal.returns-in-Some-named_type
returns-in-Some-named_type g c =
    let k = g.B.Names.context c.args.self.now.base.now in
    let of = rank-stands c.args.around (thing_of k c.args.declaration) c.requires in
    F.thing-type k (lists c.args.self.now.level) (option_copied c.args.self.now.result) c.args.declaration c.in-Some-named_type.named.now (sym (ap option_copied c.in_default.is) ∙ c.local.ensures)
    (sym (ap option_copied c.in_default-value.is) ∙ c.value.ensures) (sym (ap option_copied c.in-Some-named_type.is) ∙ c.named_type.ensures)
    (λ e. c.if-rank-eq0.false (c.rank-rank.ensures ∙ of ∙ e)) (λ e. c.if-rank-eq1.false (c.rank-rank.ensures ∙ of ∙ e))

pub returns : goal.returns
returns g c =
    let k = g.B.Names.context c.args.self.now.base.now in
    subst (λ (t : Thing). StandsFor c.args.around t)
    (F.rest-kept k (lists c.args.self.now.level) (option_copied c.args.self.now.result) c.args.declaration (sym (ap option_copied c.in_default.is) ∙ c.local.ensures)
    (sym (ap option_copied c.in_default-value.is) ∙ c.value.ensures) (sym (ap option_copied c.in_default-named_type.is) ∙ c.named_type.ensures))
    c.requires
