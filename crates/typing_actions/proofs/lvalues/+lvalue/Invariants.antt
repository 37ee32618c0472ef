use Rattle.std.proofs.Common.{take}
use Rattle.std.specs.Prelude.{IfOk}
use Rattle.typing_fits.specs.Sound.{Extends}
use Rattle.typing_steps.specs.Steps.{TypesTo}
use Rattle.typing_parts.specs.Typists.{IsReady}
use Rattle.typing_calls.specs.Lists.{all_meant}
use Rattle.typing_assigns.specs.Parts.{AllNarrowParts, AllNarrowValues, part_meant}
use Rattle.typing_actions.specs.Walks.{as_itself, parts_of, wholes_of}
use Rattle.typing_actions.proofs.lvalues.+lvalue.Given as goal

abbrev pub invariant-parts-loop-to : goal.invariant-parts-loop-to
invariant-parts-loop-to g l =
    let k = g.S.Names.context l.names in
    record {
      made : TypesTo (all_meant part_meant l.made) (parts_of k l.in_statement (take l.to-index l.targets) l.fn.known.functions) l.known.functions;
      narrow : IfOk l.made (λ v. AllNarrowParts v.items);
      ready : IsReady l.known;
      keeps : Extends l.fn.known.functions l.known.functions;
    }

abbrev pub invariant-wholes-loop-to : goal.invariant-wholes-loop-to
invariant-wholes-loop-to g l =
    let k = g.S.Names.context l.names in
    record {
      made : TypesTo (all_meant as_itself l.made) (wholes_of k l.in_statement (take l.to-index l.targets) l.fn.known.functions) l.known.functions;
      narrow : IfOk l.made (λ v. AllNarrowValues v.items);
      ready : IsReady l.known;
      keeps : Extends l.fn.known.functions l.known.functions;
    }
