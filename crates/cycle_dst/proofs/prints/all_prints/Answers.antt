use Rattle.std.proofs.Common.{◌≡◌, ℕ, ◌+◌, ◌<◌, List, ◌∷◌, [], length, take, get_or, Some, slice_get, slice_index_or, sym, ap, ◌∙◌, subst, arith}
use Rattle.std.proofs.lemmas.Option.{get_or_from_slice_get}
use Rattle.round_runner.proofs.Elements.{element}
use Rattle.cycle_dst.specs.Grounds.{machine_in, widths_in}
use Rattle.cycle_dst.specs.Prints.{AllPrints}
use Rattle.cycle_dst.proofs.Covering.{by-table}
use Rattle.cycle_dst.proofs.Printing.{comb-below, prints-more}
use Rattle.cycle_dst.proofs.prints.all_prints.Goals as goal

got : {A : Type 0} (xs : List A) (k : ℕ) (d : A) → k < length xs → slice_get xs k ≡ Some (slice_index_or xs k d)
got xs k d h = let e = element xs k h in e.1 ∙ ap Some (sym (get_or_from_slice_get xs k e.0 d e.1))

pub process_at-process-requires : goal.process_at-process-requires
process_at-process-requires c =
    let g = c.args.ground in
    comb-below (widths_in g) g.tables.now g.procs.now c.args.combs.now (machine_in g).combs c.requires.combs c.loop-i.i _
    (got c.args.combs.now c.loop-i.i c.index-combs-i.result (let t = c.loop-i-test.true in let e = c.loop-i.auto.i-end in omega (arith, t, e)))

pub known_for-requires-clause-by_table : goal.known_for-requires-clause-by_table
known_for-requires-clause-by_table c =
    let g = c.args.ground in
    by-table (widths_in g) g.tables.now g.procs.now c.requires.ground.runnable _ c.process_at-process.result.now c.process_at-process.ensures

pub print_in-requires-clause-by_table : goal.print_in-requires-clause-by_table
print_in-requires-clause-by_table c =
    let g = c.args.ground in
    by-table (widths_in g) g.tables.now g.procs.now c.requires.ground.runnable _ c.process_at-process.result.now c.process_at-process.ensures

pub loop-i-preserved : goal.loop-i-preserved
loop-i-preserved c =
    let g = c.args.ground in
    record {
      read = c.in_ok-print_in.ensures.read;
      written = c.in_ok-print_in.ensures.written;
      known = c.in_ok-known.ensures.known;
      pairs = subst (λ ps. AllPrints ps (take (c.loop-i.i + 1) (machine_in g).combs)) (sym c.in_ok-push.ensures.ok)
          (prints-more (widths_in g) g.tables.now g.procs.now c.args.combs.now (machine_in g).combs c.requires.combs c.loop-i.i _ c.process_at-process.result.now c.in_ok-print_in.field-0 c.loop-i.prints c.requires.ground.runnable
          (got c.args.combs.now c.loop-i.i c.index-combs-i.result (let t = c.loop-i-test.true in let e = c.loop-i.auto.i-end in omega (arith, t, e)))
          c.process_at-process.ensures c.in_ok-print_in.ensures.made c.loop-i.invariant.pairs);
    }
