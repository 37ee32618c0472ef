use Rattle.std.proofs.Common.{map, take}
use Rattle.expr_type.specs.Typings.{all}
use Rattle.typing_fits.specs.Sound.{Extends}
use Rattle.typing_steps.specs.Steps.{TypesTo}
use Rattle.typing_rows.specs.Rows.{so_far}
use Rattle.typing_parts.specs.Typists.{IsReady}
use Rattle.typing_values.specs.Values.{unstreamed_of}
use Rattle.typing_patterns.specs.Written.{AllInPlace, as_value}
use Rattle.typing_patterns.proofs.items.repeated.Given as goal

abbrev pub invariant-loop-e : goal.invariant-loop-e
invariant-loop-e g l =
    let k = g.S.Names.context l.names in
    record {
      typed : TypesTo (so_far l.whole (map (as_value k.source) l.made)) (all (map (unstreamed_of k) (take l.e-index l.es)) l.fn.known.functions) l.known.functions;
      ready : IsReady l.known;
      keeps : Extends l.fn.known.functions l.known.functions;
      placed : AllInPlace l.made;
    }
