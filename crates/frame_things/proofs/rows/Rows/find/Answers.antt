use Rattle.std.proofs.Common.{◌≡◌, nat_eq, Some, None, sym, ap, ◌∙◌}
use Rattle.std.specs.Prelude.{reverse}
use Rattle.std.specs.Option.{option_copied, option_map}
use Rattle.frame_things.specs.Places.{first_by}
use Rattle.frame_things.specs.Rows.{item_of, place_of}
use Rattle.frame_things.proofs.Hiding.{no-item, found-at}
use Rattle.frame_things.proofs.rows.Rows.find.Goals as goal

pub returns-in-None : goal.returns-in-None
returns-in-None g c =
    let none : place_of g.T.Numbered.number c.args.number (reverse c.self.inside.rows) ≡ None =
    sym (c.self.invariant.0 c.args.number) ∙ sym c.get.ensures.value ∙ ap option_copied c.in-None.is in
    no-item g.T.Numbered.number c.args.number (reverse c.self.inside.rows) none
    ∙ ap (first_by (λ x. nat_eq (g.T.Numbered.number x) c.args.number)) c.self.view_is

pub returns-in-None-get : goal.returns-in-None-get
returns-in-None-get g c =
    let some : place_of g.T.Numbered.number c.args.number (reverse c.self.inside.rows) ≡ Some c.in-Some.place.now =
    sym (c.self.invariant.0 c.args.number) ∙ sym c.get.ensures.value ∙ ap option_copied c.in-Some.is in
    ap (option_map item_of) (sym (ap option_copied c.in-None-get.is) ∙ c.get-in-Some.ensures.value)
    ∙ found-at g.T.Numbered.number c.args.number c.in-Some.place.now c.self.inside.rows some
    ∙ ap (first_by (λ x. nat_eq (g.T.Numbered.number x) c.args.number)) c.self.view_is

pub returns-in-Some-get : goal.returns-in-Some-get
returns-in-Some-get g c =
    let some : place_of g.T.Numbered.number c.args.number (reverse c.self.inside.rows) ≡ Some c.in-Some.place.now =
    sym (c.self.invariant.0 c.args.number) ∙ sym c.get.ensures.value ∙ ap option_copied c.in-Some.is in
    ap (option_map item_of) (sym (ap option_copied c.in-Some-get.is) ∙ c.get-in-Some.ensures.value)
    ∙ found-at g.T.Numbered.number c.args.number c.in-Some.place.now c.self.inside.rows some
    ∙ ap (first_by (λ x. nat_eq (g.T.Numbered.number x) c.args.number)) c.self.view_is
