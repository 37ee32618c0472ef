use Rattle.std.proofs.Common.{◌≡◌, ◌+◌, true, List, drop, refl, Err, ap, sym, ◌∙◌, subst}
use Rattle.std.specs.Prelude.{Result}
use Rattle.std.proofs.lemmas.Result.{err_from_is_err_and}
use Rattle.sv_tree.specs.declared.declarations.ParameterBody.{ParameterBody}
use Rattle.expr_type.specs.declared.halt.Halt.{Halt}
use Rattle.expr_type.specs.Statements as S
use Rattle.typing_steps.specs.Steps.{TypesTo}
use Rattle.typing_calls.specs.Lists.{as_meant}
use Rattle.typing_fits.proofs.Full.{and-left, and-right}
use Rattle.typing_parts.proofs.Keeping.{extends-same, extends-then}
use Rattle.typing_scopes.specs.declared.declared.Declared.{Declared}
use Rattle.typing_scopes.specs.Scopes.{context_of, means}
use Rattle.typing_scopes.proofs.Behind.{needs-alike}
use Rattle.stmt_laws.specs.Written.{bodies_written, body_written}
use Rattle.typing_declarations.specs.Blocks.{declared}
use Rattle.typing_declarations.specs.Kinds.{kind_of}
use Rattle.typing_declarations.specs.Rows.{AheadBy}
use Rattle.typing_declarations.proofs.Around.{parameter-around, parameter-kind, routine-taken}
use Rattle.typing_declarations.proofs.Joining.{row-ends}
use Rattle.typing_declarations.proofs.Lists.{at-end, here}
use Rattle.typing_declarations.proofs.Taking.{parameter-stops, parameter-taken}
use Rattle.typing_declarations.proofs.bodies.all_parameters.Goals as goal

pub one_parameter-p-requires-clause-needs : goal.one_parameter-p-requires-clause-needs
one_parameter-p-requires-clause-needs g c =
    needs-alike _ _ _ _ (context_of g.B.Names.context c.loop-body.block.scope) (context_of g.B.Names.context c.args.front.scope) c.loop-body.invariant.routine c.requires.needs

pub one_parameter-p-requires-clause-written : goal.one_parameter-p-requires-clause-written
one_parameter-p-requires-clause-written g c =
    and-left (body_written c.body-item.result) (bodies_written (drop (c.loop-body.body-index + 1) c.args.bodies.now))
    (here (λ (bs : List ParameterBody). bodies_written bs ≡ true) c.args.bodies.now c.loop-body.body-index c.body-item.result c.loop-body-test.true c.body-item.is c.loop-body.invariant.written)

pub loop-body-init : goal.loop-body-init
loop-body-init g c = record {
  row = λ row h. h;
  around = c.requires.names;
  routine = refl;
  full = tt;
  written = c.requires.written;
  ready = c.requires.ready;
  keeps = extends-same c.args.known.now.functions;
}

pub loop-body-preserved : goal.loop-body-preserved
loop-body-preserved g c =
    let of = g.B.Names.context in
    let old = c.loop-body.block in
    let new = c.take.new.self in
    let bs = c.args.bodies.now in
    let i = c.loop-body.body-index in
    let b = c.body-item.result in
    let rest = drop (i + 1) bs in
    let fs = c.loop-body.known.functions in
    let gs = c.one_parameter-p.new.known.functions in
    let p = c.one_parameter-p.result in
    let q = c.parted-kind.result in
    let was = c.loop-body.before in
    let w = here (λ (xs : List ParameterBody). bodies_written xs ≡ true) bs i b c.loop-body-test.true c.body-item.is c.loop-body.invariant.written in
    let here-written = and-left (body_written b) (bodies_written rest) w in
    record {
      row = λ row h. parameter-taken of old new row fs gs c.loop-body.whole c.in_ok-whole.whole p q was b rest c.parted-kind.ensures c.in_ok-whole.ensures
          (here (λ (xs : List ParameterBody). AheadBy c.loop-body.whole (declared old) (S.parameters (context_of of old.scope) (kind_of was) xs) row fs) bs i b c.loop-body-test.true c.body-item.is
          (c.loop-body.invariant.row row h))
          c.one_parameter-p.ensures.value;
      around = parameter-around of old new fs gs c.loop-body.whole c.in_ok-whole.whole p q was b c.parted-kind.ensures c.in_ok-whole.ensures c.loop-body.invariant.around c.loop-body.invariant.ready.sound here-written c.loop-body.invariant.full
          c.one_parameter-p.ensures.value;
      routine = routine-taken of old new fs gs c.loop-body.whole c.in_ok-whole.whole q.1 c.in_ok-whole.ensures ∙ c.loop-body.invariant.routine;
      full = parameter-kind of old new fs gs p q was b c.parted-kind.ensures c.loop-body.invariant.around c.loop-body.invariant.ready.sound here-written c.loop-body.invariant.full c.one_parameter-p.ensures.value;
      written = and-right (body_written b) (bodies_written rest) w;
      ready = c.one_parameter-p.ensures.ready;
      keeps = extends-then _ _ _ c.loop-body.invariant.keeps c.one_parameter-p.ensures.keeps;
    }

pub returns-in_err-whole-clause-value : goal.returns-in_err-whole-clause-value
returns-in_err-whole-clause-value g c =
    λ row h.
    let of = g.B.Names.context in
    let old = c.loop-body.block in
    let bs = c.args.bodies.now in
    let i = c.loop-body.body-index in
    let b = c.body-item.result in
    let fs = c.loop-body.known.functions in
    let gs = c.one_parameter-p.new.known.functions in
    let was = c.loop-body.before in
    let e = err_from_is_err_and c.from_residual.result c.from_residual.ensures.1 in
    subst (λ (r : Result Declared Halt). TypesTo (as_meant means r) row gs) (sym (e.1 ∙ ap Err e.2))
    (parameter-stops of old c.take.new.self row fs gs c.loop-body.whole c.in_err-whole.field-0.0 c.one_parameter-p.result c.parted-kind.result was b (drop (i + 1) bs) c.parted-kind.ensures c.in_err-whole.ensures
    (here (λ (xs : List ParameterBody). AheadBy c.loop-body.whole (declared old) (S.parameters (context_of of old.scope) (kind_of was) xs) row fs) bs i b c.loop-body-test.true c.body-item.is
    (c.loop-body.invariant.row row h))
    c.one_parameter-p.ensures.value)

pub returns-clause-value : goal.returns-clause-value
returns-clause-value g c =
    λ row h.
    let k = context_of g.B.Names.context c.loop-body.block.scope in
    let gs = c.loop-body.known.functions in
    subst (λ (r : Result S.Declared Halt). TypesTo r row gs) (sym c.ended.ensures)
    (row-ends c.loop-body.whole (declared c.loop-body.block) row gs
    (at-end (λ (xs : List ParameterBody). AheadBy c.loop-body.whole (declared c.loop-body.block) (S.parameters k (kind_of c.loop-body.before) xs) row gs) c.args.bodies.now c.loop-body.body-index c.loop-body-test.false
    (c.loop-body.invariant.row row h)))
