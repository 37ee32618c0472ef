use Rattle.std.proofs.Common.{◌++◌, sym, ap, ◌∙◌, slice_set}
use Rattle.std.specs.Option.{option_map}
use Rattle.sv_macro.proofs.Placed.{joined_of, ok_same}
use Rattle.sv_macro.proofs.placing.joined.Goals as goal

pub returns : goal.returns
returns c =
    let a = c.in-Some-pop.ensures in
    let b = c.in-Some.ensures in
    let d = c.in_ok-item.ensures in
    let whole = joined_of c.args.at c.args.first c.args.second _ _ _ a (sym b.value) in
    ok_same _ _ _ (ap (option_map (λ t. c.pop.new.self ++ slice_set c.args.second 0 t)) d ∙ sym whole) c.behind_front.ensures
