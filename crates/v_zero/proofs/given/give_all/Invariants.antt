use Rattle.std.proofs.Common.{◌≡◌, drop}
use Rattle.round_runner.specs.Stores.{holding, widths}
use Rattle.v_processes.specs.Walks.{initials_of}
use Rattle.v_zero.specs.Zero.{InitialsFit, given_over}
use Rattle.v_zero.proofs.given.give_all.Given as goal

abbrev pub invariant-loop-initial : goal.invariant-loop-initial
invariant-loop-initial l = record {
  fits : InitialsFit (widths l.initial.to) (initials_of (drop l.initial-index l.initials));
  shape : widths l.to ≡ widths l.initial.to;
  values : given_over (initials_of (drop l.initial-index l.initials)) (holding l.to) ≡ given_over (initials_of l.fn.initials) (holding l.initial.to);
}
