use Rattle.std.proofs.Common.{◌≡◌, map, rules, true}
use Rattle.sv_tree.specs.declared.statements.Lvalue.{the_lemmas}
use Rattle.sv_tree.specs.declared.statements.Lvalue.TheVariants as V
use Rattle.stmt_walks.specs.Written.{lvalue_written}
use Rattle.typing_walks.specs.Written.{all}
use Rattle.expr_type.specs.Targets.{slice_or_one, target}
use Rattle.typing_parts.proofs.Keeping.{extends-then}
use Rattle.typing_calls.proofs.Each.{all-types, turn-types}
use Rattle.typing_calls.specs.Lists.{all_meant}
use Rattle.typing_assigns.specs.Parts.{part_meant}
use Rattle.typing_actions.specs.Walks.{as_itself, part_of, parts_of, whole_at, wholes_of}
use Rattle.typing_actions.proofs.Turns.{parts-narrow, values-narrow, written-at}
use Rattle.typing_actions.proofs.Levels.{name-target, name-written, parts-target, parts-written, size-written, stream-target, wholes-written}
use Rattle.typing_actions.proofs.lvalues.+lvalue.Goals as goal

pub parts-target-next-requires : goal.parts-target-next-requires
parts-target-next-requires g t c =
    let w : lvalue_written c.to-item.result ≡ true = written-at c.args.targets.now c.loop-to.to-index c.to-item.result c.requires.written c.loop-to-test.true c.to-item.is in
    search (rules, the_lemmas)

pub parts-loop-to-preserved : goal.parts-loop-to-preserved
parts-loop-to-preserved g t c =
    let k = g.S.Names.context c.args.names.now in
    let b = c.args.in_statement in
    let hs = c.loop-to.known.functions in
    let gs = c.target-next.new.known.functions in
    record {
      made =
          turn-types part_meant (part_of k b) c.args.targets.now c.loop-to.to-index c.to-item.result c.args.known.now.functions hs gs c.loop-to.made c.as_part.result c.followed-made.result c.loop-to-test.true c.to-item.is
          c.followed-made.ensures c.loop-to.invariant.made (c.as_part.ensures.value (target c.to-item.result k b) hs gs c.target-next.ensures.value);
      narrow = parts-narrow c.loop-to.made c.as_part.result c.followed-made.result c.followed-made.ensures c.loop-to.invariant.narrow (c.as_part.ensures.narrow (target c.to-item.result k b) hs gs c.target-next.ensures.value);
      ready = c.target-next.ensures.ready;
      keeps = extends-then _ _ _ c.loop-to.invariant.keeps c.target-next.ensures.keeps;
    }

pub parts-returns-clause-value : goal.parts-returns-clause-value
parts-returns-clause-value g t c =
    let k = g.S.Names.context c.args.names.now in
    all-types (part_of k c.args.in_statement) c.args.targets.now c.loop-to.to-index c.args.known.now.functions c.loop-to.known.functions (all_meant part_meant c.loop-to.made) c.loop-to-test.false c.loop-to.invariant.made

pub wholes-target-next-requires : goal.wholes-target-next-requires
wholes-target-next-requires g t c =
    let w : lvalue_written c.to-item.result ≡ true = written-at c.args.targets.now c.loop-to.to-index c.to-item.result c.requires.written c.loop-to-test.true c.to-item.is in
    search (rules, the_lemmas)

pub wholes-loop-to-preserved : goal.wholes-loop-to-preserved
wholes-loop-to-preserved g t c =
    let k = g.S.Names.context c.args.names.now in
    let b = c.args.in_statement in
    let hs = c.loop-to.known.functions in
    let gs = c.target-next.new.known.functions in
    record {
      made =
          turn-types as_itself (whole_at k b) c.args.targets.now c.loop-to.to-index c.to-item.result c.args.known.now.functions hs gs c.loop-to.made c.as_whole.result c.followed-made.result c.loop-to-test.true c.to-item.is
          c.followed-made.ensures c.loop-to.invariant.made (c.as_whole.ensures.value (target c.to-item.result k b) hs gs c.target-next.ensures.value);
      narrow = values-narrow c.loop-to.made c.as_whole.result c.followed-made.result c.followed-made.ensures c.loop-to.invariant.narrow (c.as_whole.ensures.narrow (target c.to-item.result k b) hs gs c.target-next.ensures.value);
      ready = c.target-next.ensures.ready;
      keeps = extends-then _ _ _ c.loop-to.invariant.keeps c.target-next.ensures.keeps;
    }

pub wholes-returns-clause-value : goal.wholes-returns-clause-value
wholes-returns-clause-value g t c =
    let k = g.S.Names.context c.args.names.now in
    all-types (whole_at k c.args.in_statement) c.args.targets.now c.loop-to.to-index c.args.known.now.functions c.loop-to.known.functions (all_meant as_itself c.loop-to.made) c.loop-to-test.false c.loop-to.invariant.made

pub target-name_target-requires-clause-written : goal.target-name_target-requires-clause-written
target-name_target-requires-clause-written g t c =
    let is : c.args.to.now ≡ V.Name c.in-Name.name c.as_slice-selects.result.now = cc (c.in-Name.is, c.as_slice-selects.ensures) in
    name-written c.args.to.now c.in-Name.name c.as_slice-selects.result.now is c.requires.written

pub target-returns-in-Name-clause-value : goal.target-returns-in-Name-clause-value
target-returns-in-Name-clause-value g t c =
    let k = g.S.Names.context c.args.names.now in
    let is : c.args.to.now ≡ V.Name c.in-Name.name c.as_slice-selects.result.now = cc (c.in-Name.is, c.as_slice-selects.ensures) in
    name-target k c.args.in_statement c.args.to.now c.in-Name.name c.as_slice-selects.result.now c.args.known.now.functions c.name_target.new.known.functions c.name_target.result is c.name_target.ensures.value

pub target-parts-found-requires : goal.target-parts-found-requires
target-parts-found-requires g t c =
    let is : c.args.to.now ≡ V.Concatenation c.in-Concatenation.opening c.as_slice-inner.result.now c.in-Concatenation.closing = cc (c.in-Concatenation.is, c.as_slice-inner.ensures) in
    let w : all (map lvalue_written c.as_slice-inner.result.now) ≡ true = parts-written c.args.to.now c.in-Concatenation.opening c.as_slice-inner.result.now c.in-Concatenation.closing is c.requires.written in
    search (rules, the_lemmas)

pub target-returns-in-Concatenation-clause-value : goal.target-returns-in-Concatenation-clause-value
target-returns-in-Concatenation-clause-value g t c =
    let k = g.S.Names.context c.args.names.now in
    let b = c.args.in_statement in
    let fs = c.args.known.now.functions in
    let gs = c.parts-found.new.known.functions in
    let ts = c.as_slice-inner.result.now in
    let is : c.args.to.now ≡ V.Concatenation c.in-Concatenation.opening ts c.in-Concatenation.closing = cc (c.in-Concatenation.is, c.as_slice-inner.ensures) in
    parts-target k b c.args.to.now c.in-Concatenation.opening ts c.in-Concatenation.closing fs gs c.joined.result is (c.joined.ensures.value (parts_of k b ts) fs gs c.parts-found.ensures.value)

pub target-slice_size-slice-requires-clause-written : goal.target-slice_size-slice-requires-clause-written
target-slice_size-slice-requires-clause-written g t c =
    let ts = c.as_slice-streamed_here.result.now in
    let is : c.args.to.now ≡ V.Stream c.in-Stream.opening c.in-Stream.operator c.in-Stream.at c.in-Stream.size c.in-Stream.inner_opening ts c.in-Stream.inner_closing c.in-Stream.closing = cc (c.in-Stream.is, c.as_slice-streamed_here.ensures) in
    size-written c.args.to.now c.in-Stream.opening c.in-Stream.operator c.in-Stream.at c.in-Stream.size c.in-Stream.inner_opening ts c.in-Stream.inner_closing c.in-Stream.closing is c.requires.written

pub target-wholes-found-requires : goal.target-wholes-found-requires
target-wholes-found-requires g t c =
    let ts = c.as_slice-streamed_here.result.now in
    let is : c.args.to.now ≡ V.Stream c.in-Stream.opening c.in-Stream.operator c.in-Stream.at c.in-Stream.size c.in-Stream.inner_opening ts c.in-Stream.inner_closing c.in-Stream.closing = cc (c.in-Stream.is, c.as_slice-streamed_here.ensures) in
    let w : all (map lvalue_written ts) ≡ true = wholes-written c.args.to.now c.in-Stream.opening c.in-Stream.operator c.in-Stream.at c.in-Stream.size c.in-Stream.inner_opening ts c.in-Stream.inner_closing c.in-Stream.closing is c.requires.written in
    search (rules, the_lemmas)

pub target-returns-in-Stream-clause-value : goal.target-returns-in-Stream-clause-value
target-returns-in-Stream-clause-value g t c =
    let k = g.S.Names.context c.args.names.now in
    let b = c.args.in_statement in
    let fs = c.args.known.now.functions in
    let gs = c.slice_size-slice.new.known.functions in
    let hs = c.wholes-found.new.known.functions in
    let ts = c.as_slice-streamed_here.result.now in
    let is : c.args.to.now ≡ V.Stream c.in-Stream.opening c.in-Stream.operator c.in-Stream.at c.in-Stream.size c.in-Stream.inner_opening ts c.in-Stream.inner_closing c.in-Stream.closing = cc (c.in-Stream.is, c.as_slice-streamed_here.ensures) in
    stream-target k b c.args.to.now c.in-Stream.opening c.in-Stream.operator c.in-Stream.at c.in-Stream.size c.in-Stream.inner_opening ts c.in-Stream.inner_closing c.in-Stream.closing fs hs c.streamed.result is
    (c.streamed.ensures.value (slice_or_one k c.in-Stream.size) (wholes_of k b ts) fs gs hs c.slice_size-slice.ensures.value c.wholes-found.ensures.value)

pub target-returns-in-Stream-clause-keeps : goal.target-returns-in-Stream-clause-keeps
target-returns-in-Stream-clause-keeps g t c = extends-then _ _ _ c.slice_size-slice.ensures.keeps c.wholes-found.ensures.keeps
