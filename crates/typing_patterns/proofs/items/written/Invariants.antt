use Rattle.std.proofs.Common.{map, take}
use Rattle.expr_type.specs.Typings.{all}
use Rattle.typing_fits.specs.Sound.{Extends}
use Rattle.typing_steps.specs.Steps.{TypesTo}
use Rattle.typing_rows.specs.Rows.{so_far}
use Rattle.typing_parts.specs.Typists.{IsReady}
use Rattle.typing_patterns.specs.Written.{AllFoundIn, as_item, item_by}
use Rattle.typing_patterns.proofs.items.written.Given as goal

abbrev pub invariant-loop-i : goal.invariant-loop-i
invariant-loop-i g l =
    let k = g.S.Names.context l.names in
    record {
      typed : TypesTo (so_far l.whole (map (as_item k.source) l.made)) (all (map (item_by k) (take l.i-index l.of)) l.fn.known.functions) l.known.functions;
      ready : IsReady l.known;
      keeps : Extends l.fn.known.functions l.known.functions;
      found : AllFoundIn k l.made;
    }
