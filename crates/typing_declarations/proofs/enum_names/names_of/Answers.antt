use Rattle.std.proofs.Common.{◌≡◌, ◌∙◌, ◌+◌, List, [], drop, false, refl, sym, ap, subst}
use Rattle.std.specs.Prelude.{None, Ok, Err}
use Rattle.std.proofs.lemmas.Result.{err_from_is_err_and}
use Rattle.sv_tree.specs.declared.types.EnumName as W
use Rattle.expr_type.specs.declared.halt.Halt.TheVariants as H
use Rattle.expr_type.specs.Names.{Context}
use Rattle.expr_type.specs.Types.{name_values}
use Rattle.routine_fits.specs.Sound.{AllSoundFunctions}
use Rattle.typing_parts.proofs.Keeping.{extends-same, extends-then}
use Rattle.typing_scopes.specs.Scopes.{context_of}
use Rattle.typing_scopes.proofs.Behind.{needs-alike}
use Rattle.typing_steps.specs.Steps.{StopsBy, TypesTo}
use Rattle.typing_walks.specs.Keeps.{Surrounded}
use Rattle.typing_declarations.specs.Naming.{NamesAhead, as_values}
use Rattle.typing_declarations.proofs.Rows.{from-place, name-written, names-end, names-quiet, names-start}
use Rattle.typing_declarations.proofs.enum_names.names_of.Goals as goal

pub loop-name-init : goal.loop-name-init
loop-name-init g c =
    let k = context_of g.B.Names.context c.inside-inner.result in
    record {
      ahead = names-start k k c.args.base.now c.none_met-met.result c.args.list.now c.args.known.now.functions refl c.none_met-met.ensures.names c.none_met-met.ensures.lost c.none_met-met.ensures.quiet;
      met = c.none_met-met.ensures.met c.args.base.now;
      around = subst (λ (x : Context). Surrounded AllSoundFunctions x) (sym c.inside-inner.ensures.context) c.requires.names;
      routine = refl;
      ready = c.requires.ready;
      keeps = extends-same c.args.known.now.functions;
    }

pub next_name-requires-clause-needs : goal.next_name-requires-clause-needs
next_name-requires-clause-needs g c =
    needs-alike _ _ _ _ (context_of g.B.Names.context c.loop-name.inner) (context_of g.B.Names.context c.args.names.now) (c.loop-name.invariant.routine ∙ ap (λ (k : Context). k.routine) c.inside-inner.ensures.context) c.requires.needs

pub next_name-requires-clause-written : goal.next_name-requires-clause-written
next_name-requires-clause-written g c = name-written c.args.list.now c.loop-name.name-index c.name-item.result c.name-item.result c.loop-name-test.true c.name-item.is c.requires.written

pub loop-name-preserved : goal.loop-name-preserved
loop-name-preserved g c =
    let k = context_of g.B.Names.context c.inside-inner.result in
    let i = c.loop-name.name-index in
    let row = name_values k c.args.base.now false [] None c.args.list.now c.args.known.now.functions in
    record {
      ahead =
          c.in_ok-next_name.ensures.value (drop (i + 1) c.args.list.now) row
          (subst (λ (ns : List W.EnumName). NamesAhead (context_of g.B.Names.context c.loop-name.inner) c.args.base.now c.loop-name.met ns row c.loop-name.known.functions)
          (from-place c.args.list.now i c.name-item.result c.name-item.result c.loop-name-test.true c.name-item.is) c.loop-name.invariant.ahead);
      met = c.in_ok-next_name.ensures.met;
      around = c.in_ok-next_name.ensures.names;
      routine = c.in_ok-next_name.ensures.routine ∙ c.loop-name.invariant.routine;
      ready = c.next_name.ensures.ready;
      keeps = extends-then _ _ _ c.loop-name.invariant.keeps c.next_name.ensures.keeps;
    }

pub returns-in_err-next_name-clause-value : goal.returns-in_err-next_name-clause-value
returns-in_err-next_name-clause-value g c =
    let t = c.args.base.now in
    let fs = c.args.known.now.functions in
    let gs = c.next_name.new.known.functions in
    let k = context_of g.B.Names.context c.inside-inner.result in
    let i = c.loop-name.name-index in
    let row = name_values k t false [] None c.args.list.now fs in
    let e = err_from_is_err_and c.from_residual.result c.from_residual.ensures.1 in
    let stops : StopsBy c.in_err-next_name.field-0.0 row gs =
    c.in_err-next_name.ensures.value (drop (i + 1) c.args.list.now) row
    (subst (λ (ns : List W.EnumName). NamesAhead (context_of g.B.Names.context c.loop-name.inner) t c.loop-name.met ns row c.loop-name.known.functions)
    (from-place c.args.list.now i c.name-item.result c.name-item.result c.loop-name-test.true c.name-item.is) c.loop-name.invariant.ahead) in
    subst (λ r. TypesTo (as_values t r) (name_values (context_of g.B.Names.context c.args.names.now) t false [] None c.args.list.now fs) gs) (sym (e.1 ∙ ap Err e.2))
    (subst (λ (x : Context). StopsBy c.in_err-next_name.field-0.0 (name_values x t false [] None c.args.list.now fs) gs) c.inside-inner.ensures.context stops)

pub returns-in_err-next_name-clause-keeps : goal.returns-in_err-next_name-clause-keeps
returns-in_err-next_name-clause-keeps g c = extends-then _ _ _ c.loop-name.invariant.keeps c.next_name.ensures.keeps

pub returns-then-met-clause-value : goal.returns-then-met-clause-value
returns-then-met-clause-value g c =
    let t = c.args.base.now in
    let fs = c.args.known.now.functions in
    let k = context_of g.B.Names.context c.inside-inner.result in
    subst (λ (x : Context). TypesTo (as_values t (Err H.Quiet)) (name_values x t false [] None c.args.list.now fs) c.loop-name.known.functions) c.inside-inner.ensures.context
    (names-quiet (context_of g.B.Names.context c.loop-name.inner) t c.loop-name.met c.args.list.now c.loop-name.name-index (name_values k t false [] None c.args.list.now fs) c.loop-name.known.functions c.loop-name-test.false
    c.loop-name.invariant.ahead c.if-met.true)

pub returns-clause-value : goal.returns-clause-value
returns-clause-value g c =
    let t = c.args.base.now in
    let fs = c.args.known.now.functions in
    let k = context_of g.B.Names.context c.inside-inner.result in
    subst (λ (x : Context). TypesTo (as_values t (Ok c.loop-name.met.names)) (name_values x t false [] None c.args.list.now fs) c.loop-name.known.functions) c.inside-inner.ensures.context
    (names-end (context_of g.B.Names.context c.loop-name.inner) t c.loop-name.met c.args.list.now c.loop-name.name-index (name_values k t false [] None c.args.list.now fs) c.loop-name.known.functions c.loop-name-test.false
    c.loop-name.invariant.ahead c.if-met.false)
