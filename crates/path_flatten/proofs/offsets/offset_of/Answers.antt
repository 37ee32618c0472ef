use Rattle.std.proofs.Common.{refl}
use Rattle.path_flatten.specs.declared.offsets.Offset.TheVariants as O
use Rattle.path_flatten.proofs.Beginning.{plain-offset}
use Rattle.path_flatten.proofs.NamingSlides.{offset-index}
use Rattle.path_flatten.proofs.offsets.offset_of.Goals as goal

pub returns-then-is_plain-clause-begins : goal.returns-then-is_plain-clause-begins
returns-then-is_plain-clause-begins c = plain-offset c.args.index c.args.of.now c.args.up c.args.n (O.Index c.args.index) refl (c.is_plain.ensures c.if-is_plain.true)

pub returns-then-is_plain-clause-names : goal.returns-then-is_plain-clause-names
returns-then-is_plain-clause-names c = offset-index c.args.index (O.Index c.args.index) refl
