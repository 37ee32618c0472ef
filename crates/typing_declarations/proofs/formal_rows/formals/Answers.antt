use Rattle.std.proofs.Common.{◌≡◌, ◌+◌, true, List, drop, refl, Err, ap, sym, ◌∙◌, subst}
use Rattle.std.specs.Prelude.{Result}
use Rattle.std.proofs.lemmas.Result.{err_from_is_err_and}
use Rattle.sv_tree.specs.declared.functions.Formal as G
use Rattle.sv_types.specs.declared.statement.Formal.{Formal}
use Rattle.expr_type.specs.declared.halt.Halt.{Halt}
use Rattle.expr_type.specs.Functions.{at_first, formals, way_by}
use Rattle.routine_laws.specs.Texts.{formals_written, port_written}
use Rattle.typing_fits.proofs.Full.{and-left, and-right}
use Rattle.typing_parts.proofs.Keeping.{extends-same, extends-then}
use Rattle.typing_scopes.specs.Scopes.{context_of}
use Rattle.typing_scopes.proofs.Behind.{needs-alike}
use Rattle.typing_declarations.specs.declared.formal_rows.Met.{Met}
use Rattle.typing_declarations.specs.Formals.{before_of}
use Rattle.typing_declarations.specs.FormalRows.{FormalsTo, SoFar}
use Rattle.typing_declarations.proofs.Heading.{first-sound, next-around, next-before, next-routine}
use Rattle.typing_declarations.proofs.InRows.{at-start, row-ends, row-stops, row-taken}
use Rattle.typing_declarations.proofs.FormalLists.{here, none-left}
use Rattle.typing_declarations.proofs.formal_rows.formals.Goals as goal

pub next_formal-requires-clause-needs : goal.next_formal-requires-clause-needs
next_formal-requires-clause-needs g c =
    needs-alike _ _ _ _ (context_of g.B.Names.context c.loop-one.inner) (context_of g.B.Names.context c.args.inner.now) c.loop-one.invariant.routine c.requires.needs

pub next_formal-requires-clause-written : goal.next_formal-requires-clause-written
next_formal-requires-clause-written g c =
    and-left (port_written c.one-item.result.text) (formals_written (drop (c.loop-one.one-index + 1) c.args.list.now))
    (here (λ (xs : List G.Formal). formals_written xs ≡ true) c.args.list.now c.loop-one.one-index c.one-item.result c.loop-one-test.true c.one-item.is c.loop-one.invariant.written)

pub loop-one-init : goal.loop-one-init
loop-one-init g c =
    let k = context_of g.B.Names.context c.args.inner.now in
    let fs = c.args.known.now.functions in
    let gs = c.args.list.now in
    record {
      so_far = subst (λ (m : Met). SoFar m.whole k k (before_of c.at_first-before.result) m.made gs (formals k at_first gs fs) fs) (sym c.none_met-met.ensures)
          (at-start k k (before_of c.at_first-before.result) gs fs refl c.at_first-before.ensures);
      around = c.requires.names;
      routine = refl;
      before = first-sound (before_of c.at_first-before.result) c.at_first-before.ensures;
      written = c.requires.written;
      ready = c.requires.ready;
      keeps = extends-same fs;
    }

pub loop-one-preserved : goal.loop-one-preserved
loop-one-preserved g c =
    let of = g.B.Names.context in
    let k = context_of of c.args.inner.now in
    let j = context_of of c.loop-one.inner in
    let i = context_of of c.next_formal.new.inner in
    let xs = c.args.list.now in
    let n = c.loop-one.one-index in
    let one = c.one-item.result in
    let rest = drop (n + 1) xs in
    let fs = c.loop-one.known.functions in
    let gs = c.next_formal.new.known.functions in
    let b = before_of c.loop-one.before in
    let turn = c.in_ok-turn.turn in
    let way = way_by b.way one.direction in
    let row = formals k at_first xs c.args.known.now.functions in
    let w = here (λ (ys : List G.Formal). formals_written ys ≡ true) xs n one c.loop-one-test.true c.one-item.is c.loop-one.invariant.written in
    let one-written = and-left (port_written one.text) (formals_written rest) w in
    record {
      so_far = row-taken k j i b (before_of turn.before) c.loop-one.met c.take.new.met turn.formal one rest row fs gs c.in_ok-take.ensures
          (here (λ (ys : List G.Formal). SoFar c.loop-one.met.whole k j b c.loop-one.met.made ys row fs) xs n one c.loop-one-test.true c.one-item.is c.loop-one.invariant.so_far) c.in_ok-turn.ensures.value;
      around = next-around turn.formal j i b (before_of turn.before) way one fs gs c.loop-one.invariant.around one-written c.loop-one.invariant.before c.loop-one.invariant.ready.sound c.in_ok-turn.ensures.value;
      routine = next-routine turn.formal j i (before_of turn.before) way _ gs c.in_ok-turn.ensures.value ∙ c.loop-one.invariant.routine;
      before = next-before turn.formal j i b (before_of turn.before) way one fs gs c.loop-one.invariant.around one-written c.loop-one.invariant.before c.loop-one.invariant.ready.sound c.in_ok-turn.ensures.value;
      written = and-right (port_written one.text) (formals_written rest) w;
      ready = c.next_formal.ensures.ready;
      keeps = extends-then _ _ _ c.loop-one.invariant.keeps c.next_formal.ensures.keeps;
    }

pub returns-in_err-turn-clause-value : goal.returns-in_err-turn-clause-value
returns-in_err-turn-clause-value g c =
    let of = g.B.Names.context in
    let k = context_of of c.args.inner.now in
    let j = context_of of c.loop-one.inner in
    let i = context_of of c.next_formal.new.inner in
    let xs = c.args.list.now in
    let n = c.loop-one.one-index in
    let one = c.one-item.result in
    let fs = c.loop-one.known.functions in
    let gs = c.next_formal.new.known.functions in
    let b = before_of c.loop-one.before in
    let row = formals k at_first xs c.args.known.now.functions in
    let e = err_from_is_err_and c.from_residual.result c.from_residual.ensures.1 in
    subst (λ (r : Result (List Formal) Halt). FormalsTo r i k row gs) (sym (e.1 ∙ ap Err e.2))
    (row-stops k j i i b c.loop-one.met one (drop (n + 1) xs) row fs gs (way_by b.way one.direction) c.in_err-turn.field-0.0
    (here (λ (ys : List G.Formal). SoFar c.loop-one.met.whole k j b c.loop-one.met.made ys row fs) xs n one c.loop-one-test.true c.one-item.is c.loop-one.invariant.so_far) c.in_err-turn.ensures.value)

pub returns-clause-value : goal.returns-clause-value
returns-clause-value g c =
    let of = g.B.Names.context in
    let k = context_of of c.args.inner.now in
    let j = context_of of c.loop-one.inner in
    let met = c.loop-one.met in
    let gs = c.loop-one.known.functions in
    let b = before_of c.loop-one.before in
    let row = formals k at_first c.args.list.now c.args.known.now.functions in
    subst (λ (r : Result (List Formal) Halt). FormalsTo r j k row gs) (sym c.ended.ensures)
    (row-ends met.whole k j b met.made row gs (none-left (λ (ys : List G.Formal). SoFar met.whole k j b met.made ys row gs) c.args.list.now c.loop-one.one-index c.loop-one-test.false c.loop-one.invariant.so_far))
