use Rattle.path_flatten.specs.Sliding.{IsEntire}
use Rattle.path_flatten.proofs.slides.name_of.Goals as goal

pub returns-then-is_selectable : goal.returns-then-is_selectable
returns-then-is_selectable c =
    let all : IsEntire c.args.reading.width c.args.reading.window c.args.of = c.is_selectable.ensures c.if-is_selectable.true in
    record { root_is = c.in-Name.is; width_is = all.width_is; window_is = all.window_is }
