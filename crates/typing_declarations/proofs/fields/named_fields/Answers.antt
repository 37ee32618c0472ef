use Rattle.std.proofs.Common.{map, take}
use Rattle.std.specs.Option.{option_copied}
use Rattle.typing_walks.specs.WrittenTypes.{name_written}
use Rattle.typing_parts.proofs.Keeping.{extends-then}
use Rattle.typing_declarations.specs.Texts.{field_by}
use Rattle.typing_declarations.proofs.FieldRows.{each-written, next-turn}
use Rattle.typing_declarations.proofs.fields.named_fields.Goals as goal

pub next_field-fields-requires-clause-written : goal.next_field-fields-requires-clause-written
next_field-fields-requires-clause-written g c =
    each-written name_written c.args.list.now c.loop-name.name-index c.name-item.result c.name-item.result c.loop-name-test.true c.name-item.is c.requires.written

pub loop-name-preserved : goal.loop-name-preserved
loop-name-preserved g c =
    let f = field_by (g.S.Names.context c.args.names.now) c.args.inside_packed (option_copied c.args.of) in
    let fs = c.args.known.now.functions in
    record {
      value =
          next-turn f c.args.list.now c.loop-name.name-index c.name-item.result _ fs _ c.loop-name-test.true c.name-item.is
          (c.next_field-fields.ensures.value (map f (take c.loop-name.name-index c.args.list.now)) fs c.loop-name.invariant.value);
      ready = c.next_field-fields.ensures.ready;
      keeps = extends-then _ _ _ c.loop-name.invariant.keeps c.next_field-fields.ensures.keeps;
    }
