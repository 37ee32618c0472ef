use Rattle.std.proofs.Common.{◌≡◌}
use Rattle.sv_types.specs.Layouts.{width_of}
use Rattle.typing_scopes.specs.Scopes.{context_of}
use Rattle.typing_declarations.specs.Naming.{valued}
use Rattle.typing_declarations.proofs.Declaring.{constants-more, long-at, narrow-at}
use Rattle.typing_declarations.proofs.enums.constants.Goals as goal

pub constant_by-requires-clause-narrow : goal.constant_by-requires-clause-narrow
constant_by-requires-clause-narrow g c = narrow-at (width_of c.args.of.now) c.args.met.now c.loop-named.named-index c.loop-named-test.true c.requires

pub constant_by-requires-clause-same : goal.constant_by-requires-clause-same
constant_by-requires-clause-same g c = long-at (width_of c.args.of.now) c.args.met.now c.loop-named.named-index c.named-item.result c.named-item.result c.loop-named-test.true c.named-item.is c.requires

pub loop-named-preserved : goal.loop-named-preserved
loop-named-preserved g c =
    constants-more (context_of g.B.Names.context c.args.names.now) c.args.of.now c.args.met.now c.loop-named.named-index c.named-item.result c.declaration-declaration.result c.in_ok-value.value c.loop-named.values c.push.new.self c.loop-named-test.true
    c.named-item.is c.loop-named.invariant c.declaration-declaration.ensures c.in_ok-value.ensures c.in_ok-push.ensures.ok
