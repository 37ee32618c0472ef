use Rattle.std.proofs.Common.{◌≡◌, Some, subst, ℕ}
use Rattle.expr_type.specs.Forms.{plain}
use Rattle.typing_parts.specs.Operands.{as_operand}
use Rattle.typing_steps.specs.Steps.{TypesTo}
use Rattle.typing_patterns.specs.TypingValues as P
use Rattle.typing_exprs.proofs.WalkLaws.{call-fits}
use Rattle.typing_exprs.proofs.CastFormsCasting.{called-alone, called-sized, cast-can}
use Rattle.typing_exprs.proofs.calls.called.Goals as goal

pub by_size-requires-clause-names : goal.by_size-requires-clause-names
by_size-requires-clause-names g c = c.requires.names.context

pub by_size-requires-clause-fits : goal.by_size-requires-clause-fits
by_size-requires-clause-fits g c =
    let k = g.S.Names.context c.args.names.now in
    let fs = c.args.known.now.functions in
    let gs = c.call.new.known.functions in
    c.as_plain-made.ensures.fits gs (call-fits k c.args.of c.args.arguments.now fs gs c.call.result c.requires.names c.requires.written c.requires.ready.sound c.call.ensures.value)

pub by_size-requires-clause-can : goal.by_size-requires-clause-can
by_size-requires-clause-can g c =
    let is : c.args.cast.now ≡ Some c.get.result.now = cc (c.in-Some.is, c.get.ensures) in
    cast-can _ _ _ _ _ _ _ c.args.cast.now c.get.result.now is c.requires.can

pub returns-in-None-clause-value : goal.returns-in-None-clause-value
returns-in-None-clause-value g c =
    let k = g.S.Names.context c.args.names.now in
    let fs = c.args.known.now.functions in
    let gs = c.call.new.known.functions in
    called-alone k c.args.of c.args.arguments.now c.args.cast.now (as_operand k.source c.as_plain-made.result) fs gs c.in-None.is
    (c.as_plain-made.ensures.value k.source (P.call k c.args.of c.args.arguments.now) fs gs c.call.ensures.value)

pub returns-in-Some-clause-value : goal.returns-in-Some-clause-value
returns-in-Some-clause-value g c =
    let k = g.S.Names.context c.args.names.now in
    let fs = c.args.known.now.functions in
    let hs = c.call.new.known.functions in
    let gs = c.by_size.new.known.functions in
    let x = plain (P.call k c.args.of c.args.arguments.now) in
    let is : c.args.cast.now ≡ Some c.get.result.now = cc (c.in-Some.is, c.get.ensures) in
    let made = c.as_plain-made.ensures.value k.source (P.call k c.args.of c.args.arguments.now) fs hs c.call.ensures.value in
    called-sized k c.args.of c.args.arguments.now c.args.cast.now c.get.result.now (as_operand k.source c.as_plain.result) fs gs is
    (subst (λ (at : ℕ). TypesTo (as_operand k.source c.as_plain.result) (plain (P.by_size k at x c.get.result.now) fs) gs) c.first_token-first.ensures
    (c.as_plain.ensures.value k.source (P.by_size k c.first_token-first.result x c.get.result.now) fs gs (c.by_size.ensures.value x fs made)))
