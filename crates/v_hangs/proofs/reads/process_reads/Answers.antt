use Rattle.v_steps.proofs.Stepping.{same-scope}
use Rattle.v_hangs.proofs.Listing.{if-listed}
use Rattle.v_hangs.proofs.Reading.{hangs-on-listed}
use Rattle.v_hangs.proofs.reads.process_reads.Goals as goal

pub returns-clause-hangs : goal.returns-clause-hangs
returns-clause-hangs c =
    let t = c.args.table.now in
    let p = c.args.process.now in
    if-listed
    (λ ns h. hangs-on-listed t p.first p.does _ _ c.does_reads.new.out c.as_slice.result.now ns (same-scope t p.first) (c.are_signals.ensures c.if-not-are_signals.false) (c.port_is_signal.ensures c.if-not-port_is_signal.false)
    c.new-numbers.ensures c.in_ok-does_reads.ensures c.as_slice.ensures h)
    c.signals_once.result c.signals_once.ensures.listed
