use Rattle.std.proofs.Common.{◌≡◌, ◌+◌, [], length, drop, Some, arith, ap, sym, ◌∙◌, subst}
use Rattle.std.specs.Prelude.{slice_get}
use Rattle.std.proofs.Math.ListN.{drop_of_length-le}
use Rattle.round_runner.specs.Stores.{holding, widths}
use Rattle.v_eval.proofs.Loops.{at-front}
use Rattle.v_processes.specs.Walks.{initial_of, initials_of}
use Rattle.v_zero.specs.Zero.{InitialsFit, given_over}
use Rattle.v_zero.proofs.Giving.{there, shape-set, give-next, give-none}
use Rattle.v_zero.proofs.given.give_all.Goals as goal

pub give-requires : goal.give-requires
give-requires c =
    let x = c.initial-item.result in
    let front = at-front c.args.initials.now c.loop-initial.initial-index x (omega arith) c.initial-item.is in
    let fits = subst (λ is. InitialsFit (widths c.args.to.now) (initials_of is)) front c.loop-initial.invariant.fits in
    there c.loop-initial.to x.number (length x.value.now) (ap (λ ws. slice_get ws x.number) c.loop-initial.invariant.shape ∙ fits.0)

pub loop-initial-preserved : goal.loop-initial-preserved
loop-initial-preserved c =
    let x = c.initial-item.result in
    let now = c.loop-initial.to in
    let rest = initials_of (drop (c.loop-initial.initial-index + 1) c.args.initials.now) in
    let front = at-front c.args.initials.now c.loop-initial.initial-index x (omega arith) c.initial-item.is in
    let fits = subst (λ is. InitialsFit (widths c.args.to.now) (initials_of is)) front c.loop-initial.invariant.fits in
    let here : slice_get (widths now) x.number ≡ Some (length x.value.now) = ap (λ ws. slice_get ws x.number) c.loop-initial.invariant.shape ∙ fits.0 in
    let all = given_over (initials_of c.args.initials.now) (holding c.args.to.now) in
    record {
      fits = fits.1;
      shape = ap widths c.in_ok-give.ensures ∙ shape-set now x.number x.value.now here ∙ c.loop-initial.invariant.shape;
      values = give-next (initial_of x) rest now c.give.new.to all here c.in_ok-give.ensures (subst (λ is. given_over (initials_of is) (holding now) ≡ all) front c.loop-initial.invariant.values);
    }

pub returns : goal.returns
returns c =
    let none : drop c.loop-initial.initial-index c.args.initials.now ≡ [] = drop_of_length-le c.args.initials.now (omega arith) in
    record {
      values = sym (give-none (holding c.loop-initial.to)) ∙ ap (λ is. given_over (initials_of is) (holding c.loop-initial.to)) (sym none) ∙ c.loop-initial.invariant.values;
      shape = c.loop-initial.invariant.shape;
    }
