use Rattle.std.proofs.Common.{◌≡◌, Some, None, sym, ap, ◌∙◌}
use Rattle.v_parts.specs.Taking.{place_of}
use Rattle.v_parts.proofs.Places.{none-of, first-of}
use Rattle.v_parts.proofs.taking.first.Goals as goal

pub returns-in-Some-clause-value : goal.returns-in-Some-clause-value
returns-in-Some-clause-value g c =
    let at : place_of g.K.Kind.value c.args.parts.now ≡ Some c.in-Some.place = sym (c.in-Some.ensures ∙ ap (place_of g.K.Kind.value) c.as_slice.ensures) in
    c.take.ensures ∙ (first-of g.K.Kind.value c.args.parts.now c.in-Some.place at).value c.remove.result c.remove.ensures.item

pub returns-in-Some-clause-left : goal.returns-in-Some-clause-left
returns-in-Some-clause-left g c =
    let at : place_of g.K.Kind.value c.args.parts.now ≡ Some c.in-Some.place = sym (c.in-Some.ensures ∙ ap (place_of g.K.Kind.value) c.as_slice.ensures) in
    c.remove.ensures.rest ∙ (first-of g.K.Kind.value c.args.parts.now c.in-Some.place at).rest

pub returns-in-None-clause-value : goal.returns-in-None-clause-value
returns-in-None-clause-value g c =
    let at : place_of g.K.Kind.value c.args.parts.now ≡ None = sym (c.in-None.ensures ∙ ap (place_of g.K.Kind.value) c.as_slice.ensures) in
    sym (none-of g.K.Kind.value c.args.parts.now at).value

pub returns-in-None-clause-left : goal.returns-in-None-clause-left
returns-in-None-clause-left g c =
    let at : place_of g.K.Kind.value c.args.parts.now ≡ None = sym (c.in-None.ensures ∙ ap (place_of g.K.Kind.value) c.as_slice.ensures) in
    sym (none-of g.K.Kind.value c.args.parts.now at).rest
