use Rattle.std.specs.Option.{option_copied}
use Rattle.typing_declarations.proofs.Valuing.{unwritten-bits, unwritten-short, unwritten-told}
use Rattle.typing_declarations.proofs.values.name_value.Goals as goal

pub returns-else-met-clause-value : goal.returns-else-met-clause-value
returns-else-met-clause-value g c =
    unwritten-told (g.S.Names.context c.args.names.now) c.args.base.now c.args.met.now c.args.name.now c.unwritten_value.result c.args.known.now.functions (option_copied c.last_bits.result) c.if-met.false c.in-None.is
    c.last_bits.ensures c.requires.met c.unwritten_value.ensures

pub returns-else-met-clause-bits : goal.returns-else-met-clause-bits
returns-else-met-clause-bits g c =
    unwritten-bits (g.S.Names.context c.args.names.now) c.args.base.now c.args.met.now c.args.name.now.name c.unwritten_value.result (option_copied c.last_bits.result) c.last_bits.ensures c.requires.met c.unwritten_value.ensures

pub returns-else-met-clause-short : goal.returns-else-met-clause-short
returns-else-met-clause-short g c =
    unwritten-short (g.S.Names.context c.args.names.now) c.args.base.now c.args.met.now c.args.name.now.name c.unwritten_value.result (option_copied c.last_bits.result) c.last_bits.ensures c.requires.met c.unwritten_value.ensures
