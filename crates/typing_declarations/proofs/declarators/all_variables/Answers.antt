use Rattle.std.proofs.Common.{◌≡◌, ◌+◌, true, List, drop, refl, Err, ap, sym, ◌∙◌, subst}
use Rattle.std.specs.Prelude.{Result}
use Rattle.std.specs.Option.{option_copied}
use Rattle.std.proofs.lemmas.Result.{err_from_is_err_and}
use Rattle.sv_tree.specs.declared.declarations.Declarator.{Declarator}
use Rattle.expr_type.specs.declared.halt.Halt.{Halt}
use Rattle.expr_type.specs.Statements as S
use Rattle.typing_steps.specs.Steps.{TypesTo}
use Rattle.typing_calls.specs.Lists.{as_meant}
use Rattle.typing_fits.proofs.Full.{and-left, and-right}
use Rattle.typing_parts.proofs.Keeping.{extends-same, extends-then}
use Rattle.typing_scopes.specs.declared.declared.Declared.{Declared}
use Rattle.typing_scopes.specs.Scopes.{context_of, means}
use Rattle.typing_scopes.proofs.Behind.{needs-alike}
use Rattle.stmt_laws.specs.Written.{declarator_written, declarators_written}
use Rattle.typing_declarations.specs.Blocks.{declared}
use Rattle.typing_declarations.specs.Rows.{AheadBy, each_variable}
use Rattle.typing_declarations.proofs.Joining.{row-ends}
use Rattle.typing_declarations.proofs.Lists.{at-end, here}
use Rattle.typing_declarations.proofs.Around.{routine-taken, variable-around}
use Rattle.typing_declarations.proofs.Taking.{variable-stops, variable-taken}
use Rattle.typing_declarations.proofs.declarators.all_variables.Goals as goal

pub variable-part-requires-clause-needs : goal.variable-part-requires-clause-needs
variable-part-requires-clause-needs g c = needs-alike _ _ _ _ (context_of g.B.Names.context c.loop-d.block.scope) (context_of g.B.Names.context c.args.front.scope) c.loop-d.invariant.routine c.requires.needs

pub variable-part-requires-clause-written : goal.variable-part-requires-clause-written
variable-part-requires-clause-written g c =
    and-left (declarator_written c.d-item.result) (declarators_written (drop (c.loop-d.d-index + 1) c.args.ds.now))
    (here (λ (ds : List Declarator). declarators_written ds ≡ true) c.args.ds.now c.loop-d.d-index c.d-item.result c.loop-d-test.true c.d-item.is c.loop-d.invariant.written)

pub loop-d-init : goal.loop-d-init
loop-d-init g c = record {
  row = λ row h. h;
  around = c.requires.names;
  routine = refl;
  written = c.requires.written;
  ready = c.requires.ready;
  keeps = extends-same c.args.known.now.functions;
}

pub loop-d-preserved : goal.loop-d-preserved
loop-d-preserved g c =
    let of = g.B.Names.context in
    let old = c.loop-d.block in
    let new = c.take.new.self in
    let t = option_copied c.args.of in
    let ds = c.args.ds.now in
    let i = c.loop-d.d-index in
    let d = c.d-item.result in
    let rest = drop (i + 1) ds in
    let fs = c.loop-d.known.functions in
    let gs = c.variable-part.new.known.functions in
    let part = c.variable-part.result in
    let w = here (λ (xs : List Declarator). declarators_written xs ≡ true) ds i d c.loop-d-test.true c.d-item.is c.loop-d.invariant.written in
    let here-written = and-left (declarator_written d) (declarators_written rest) w in
    record {
      row = λ row h. variable-taken of old new row fs gs c.loop-d.whole c.in_ok-whole.whole part t d rest c.in_ok-whole.ensures
          (here (λ (xs : List Declarator). AheadBy c.loop-d.whole (declared old) (each_variable (context_of of old.scope) t xs) row fs) ds i d c.loop-d-test.true c.d-item.is (c.loop-d.invariant.row row h))
          c.variable-part.ensures.value;
      around = variable-around of old new fs gs c.loop-d.whole c.in_ok-whole.whole part t d c.in_ok-whole.ensures c.loop-d.invariant.around c.loop-d.invariant.ready.sound here-written c.requires.full c.variable-part.ensures.value;
      routine = routine-taken of old new fs gs c.loop-d.whole c.in_ok-whole.whole part c.in_ok-whole.ensures ∙ c.loop-d.invariant.routine;
      written = and-right (declarator_written d) (declarators_written rest) w;
      ready = c.variable-part.ensures.ready;
      keeps = extends-then _ _ _ c.loop-d.invariant.keeps c.variable-part.ensures.keeps;
    }

pub returns-in_err-whole-clause-value : goal.returns-in_err-whole-clause-value
returns-in_err-whole-clause-value g c =
    λ row h.
    let of = g.B.Names.context in
    let old = c.loop-d.block in
    let t = option_copied c.args.of in
    let ds = c.args.ds.now in
    let i = c.loop-d.d-index in
    let d = c.d-item.result in
    let fs = c.loop-d.known.functions in
    let gs = c.variable-part.new.known.functions in
    let e = err_from_is_err_and c.from_residual.result c.from_residual.ensures.1 in
    subst (λ (r : Result Declared Halt). TypesTo (as_meant means r) row gs) (sym (e.1 ∙ ap Err e.2))
    (variable-stops of old c.take.new.self row fs gs c.loop-d.whole c.in_err-whole.field-0.0 c.variable-part.result t d (drop (i + 1) ds) c.in_err-whole.ensures
    (here (λ (xs : List Declarator). AheadBy c.loop-d.whole (declared old) (each_variable (context_of of old.scope) t xs) row fs) ds i d c.loop-d-test.true c.d-item.is (c.loop-d.invariant.row row h))
    c.variable-part.ensures.value)

pub returns-clause-value : goal.returns-clause-value
returns-clause-value g c =
    λ row h.
    let k = context_of g.B.Names.context c.loop-d.block.scope in
    let t = option_copied c.args.of in
    let gs = c.loop-d.known.functions in
    subst (λ (r : Result S.Declared Halt). TypesTo r row gs) (sym c.ended.ensures)
    (row-ends c.loop-d.whole (declared c.loop-d.block) row gs
    (at-end (λ (xs : List Declarator). AheadBy c.loop-d.whole (declared c.loop-d.block) (each_variable k t xs) row gs) c.args.ds.now c.loop-d.d-index c.loop-d-test.false (c.loop-d.invariant.row row h)))
