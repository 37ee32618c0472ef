use Rattle.std.proofs.Common.{false}
use Rattle.enum_values.proofs.Unwritten.{value-inside}
use Rattle.typing_declarations.specs.Naming.{value_by, values_of}
use Rattle.typing_declarations.proofs.Rows.{met-more}
use Rattle.typing_declarations.proofs.enum_names.put.Goals as goal

pub returns-clause-met : goal.returns-clause-met
returns-clause-met c =
    let t = c.args.base.now in
    let x = c.args.named in
    met-more t c.args.met.now (record { names = c.push.new.self; taken = c.add.new.self; lost = false; quiet = c.args.met.now.quiet }) x c.in_ok-push.ensures.ok c.requires.met c.requires.short c.requires.bits
    (c.in_ok-add.ensures t (values_of t c.args.met.now.names) (value_by t x) c.requires.whole c.requires.met.held (value-inside t x.bits c.requires.whole c.requires.bits) c.requires.bits)
