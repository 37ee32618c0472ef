use Rattle.std.proofs.Common.{map, take}
use Rattle.std.specs.Option.{option_copied}
use Rattle.expr_type.specs.Typings.{all}
use Rattle.typing_fits.specs.Sound.{Extends}
use Rattle.typing_steps.specs.Steps.{TypesTo}
use Rattle.typing_parts.specs.Typists.{IsReady}
use Rattle.typing_declarations.specs.Texts.{field_by}
use Rattle.typing_declarations.proofs.fields.named_fields.Given as goal

abbrev pub invariant-loop-name : goal.invariant-loop-name
invariant-loop-name g l = record {
  value : TypesTo l.fields (all (map (field_by (g.S.Names.context l.names) l.inside_packed (option_copied l.of)) (take l.name-index l.list)) l.initial.known.functions) l.known.functions;
  ready : IsReady l.known;
  keeps : Extends l.initial.known.functions l.known.functions;
}
