use Rattle.std.proofs.Common.{[], ◌∷◌, List, sym, ap, subst, ◌∙◌, Bool}
use Rattle.sv_types.specs.declared.statement.Function.{Function}
use Rattle.expr_type.specs.Uses.{mark_of}
use Rattle.function_places.specs.Places.{places_in}
use Rattle.routine_fits.specs.Sound.{AllSoundFunctions}
use Rattle.typing_fits.specs.Sound.{Extends}
use Rattle.typing_fits.proofs.Given.{extends-more}
use Rattle.known_functions.proofs.Places.{declared-by, place-kept}
use Rattle.known_functions.proofs.Laws.{mark-kept}
use Rattle.known_functions.proofs.adding.add.Goals as goal

pub returns-clause-ready : goal.returns-clause-ready
returns-clause-ready c =
    let known = c.args.known.now in
    let f = c.args.function in
    record {
      marked = mark-kept known.functions c.put.new.functions known.marks c.put.new.marks f c.in_ok-mark.mark c.requires.ready.marked (c.in_ok-mark.ensures ∙ ap (λ (x : List Bool). mark_of x f) c.as_slice.ensures) c.in_ok-put.ensures.marks c.in_ok-put.ensures.functions;
      placed = place-kept known.functions c.put.new.functions f (places_in known.places) (places_in c.put_place.new.places) (f.instance, f.spot.at, c.in_ok-path.path) c.len-place.result c.requires.ready.placed (declared-by f c.in_ok-path.path c.in_ok-path.ensures) c.len-place.ensures c.in_default.ensures.ok c.in_ok-put.ensures.functions;
      sound = subst (λ (fs : List Function). AllSoundFunctions fs) (sym c.in_ok-put.ensures.functions) c.requires.sound;
    }

pub returns-clause-keeps : goal.returns-clause-keeps
returns-clause-keeps c =
    subst (λ (fs : List Function). Extends c.args.known.now.functions fs) (sym c.in_ok-put.ensures.functions) (extends-more c.args.known.now.functions (c.args.function ∷ []))
