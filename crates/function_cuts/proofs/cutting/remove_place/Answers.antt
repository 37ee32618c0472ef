use Rattle.std.proofs.Common.{◌≡◌, Some, sym, ◌∙◌}
use Rattle.function_places.specs.Places.{places_in}
use Rattle.function_cuts.proofs.Dropping.{left, removed}
use Rattle.function_cuts.proofs.cutting.remove_place.Goals as goal

pub returns-then-is_at : goal.returns-then-is_at
returns-then-is_at c fs f is at all d =
    let places = places_in c.args.places.now in
    let here : c.of.result ≡ Some c.args.place = c.is_at.ensures.0 c.if-is_at.true in
    c.remove.ensures d ∙ removed fs f places c.args.declared.now c.args.place is at all (sym c.of.ensures ∙ here) d

pub returns-else-is_at : goal.returns-else-is_at
returns-else-is_at c fs f is at all d =
    left fs f (places_in c.args.places.now) c.args.declared.now c.args.place is at all
    (λ e. let here = c.is_at.ensures.1 (c.of.ensures ∙ e) in absurd (cc (c.if-is_at.false, here))) d
