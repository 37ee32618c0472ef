use Rattle.std.proofs.Common.{map, sym, subst, List}
use Rattle.bit_sets.specs.declared.span.Span.{Span}
use Rattle.v_drives.specs.Rows.{AreCovered}
use Rattle.v_writes.specs.Writes.{use_in}
use Rattle.v_drives.proofs.Tallies as T
use Rattle.v_drives.proofs.sets.written_count.Goals as goal

pub returns-clause-most : goal.returns-clause-most
returns-clause-most c =
    let us = map use_in c.args.writes.now in
    T.most-in c.as_slice.result.now us c.args.row.now.widths c.count_of.result
    (subst (λ (ss : List Span). AreCovered c.args.row.now.widths us ss) (sym c.as_slice.ensures) c.in_ok-set.ensures.bits) c.count_of.ensures

pub returns-clause-value : goal.returns-clause-value
returns-clause-value c = λ signals wide.
    let us = map use_in c.args.writes.now in
    T.counted-in c.as_slice.result.now us c.args.row.now.widths signals c.count_of.result
    (subst (λ (ss : List Span). AreCovered c.args.row.now.widths us ss) (sym c.as_slice.ensures) c.in_ok-set.ensures.bits) wide c.count_of.ensures
