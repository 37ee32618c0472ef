use Rattle.std.proofs.Common.{sym, subst}
use Rattle.round_runner.specs.Stores.{Holds, holding, widths}
use Rattle.v_processes.specs.Walks.{initials_of}
use Rattle.v_zero.specs.Zero.{InitialsFit, given_over}
use Rattle.cycle_dst.proofs.Wholly.{ground-is, initials-fit}
use Rattle.cycle_dst.proofs.rows.run_initially.Goals as goal

pub given_store-requires : goal.given_store-requires
given_store-requires c =
    subst (λ is. InitialsFit (widths c.args.initial.now) (initials_of is)) (sym c.as_slice.ensures) (initials-fit c.args.whole c.args.initial.now c.requires.whole c.requires.initial)

pub run_ground-requires-clause-ground : goal.run_ground-requires-clause-ground
run_ground-requires-clause-ground c =
    ground-is c.args.whole c.as_slice-2.result c.args.initial c.deref.result c.in_ok-given.given.items c.requires.whole c.requires.initial c.as_slice-2.ensures c.deref.ensures.value
    (subst (λ is. Holds (widths c.args.initial.now) (given_over (initials_of is) (holding c.args.initial.now)) c.in_ok-given.given.items) c.as_slice.ensures c.in_ok-given.ensures)
