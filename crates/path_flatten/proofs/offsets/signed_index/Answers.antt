use Rattle.std.proofs.Common.{◌+◌, arith, refl}
use Rattle.v_meaning.specs.Values.{meaning}
use Rattle.path_flatten.specs.declared.offsets.Argument.{Argument}
use Rattle.path_flatten.specs.declared.offsets.Offset.TheVariants as O
use Rattle.path_flatten.proofs.Beginning.{as-signed, as-unsigned, signed-argument, unsigned-argument}
use Rattle.path_flatten.proofs.Naming.{like-itself}
use Rattle.path_flatten.proofs.NamingSlides.{like-zero}
use Rattle.path_flatten.proofs.offsets.signed_index.Goals as goal

pub returns-then-signed-clause-number : goal.returns-then-signed-clause-number
returns-then-signed-clause-number c = as-signed c.args.index (meaning c.args.index.expr) c.args.index.width c.if-signed.true refl refl

pub returns-then-signed-clause-passed : goal.returns-then-signed-clause-passed
returns-then-signed-clause-passed c =
    let r : Argument = record { expr = c.args.index.expr; bits = c.args.index.width } in
    signed-argument c.args.index (O.Index c.args.index) r refl c.if-signed.true refl refl

pub returns-then-signed-clause-names : goal.returns-then-signed-clause-names
returns-then-signed-clause-names c = like-itself (meaning c.args.index.expr)

pub returns-clause-number : goal.returns-clause-number
returns-clause-number c = as-unsigned c.args.index (meaning c.in_ok-expr.expr) (c.args.index.width + 1) c.if-signed.false c.in_ok-expr.ensures (omega arith)

pub returns-clause-passed : goal.returns-clause-passed
returns-clause-passed c =
    let r : Argument = record { expr = c.in_ok-expr.expr; bits = c.args.index.width + 1 } in
    unsigned-argument c.args.index (O.Index c.args.index) r refl c.if-signed.false c.in_ok-expr.ensures (omega arith)

pub returns-clause-names : goal.returns-clause-names
returns-clause-names c = like-zero (meaning c.args.index.expr) (meaning c.in_ok-expr.expr) c.in_ok-expr.ensures
