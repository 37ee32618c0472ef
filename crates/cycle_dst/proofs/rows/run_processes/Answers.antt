use Rattle.std.proofs.Common.{sym, subst}
use Rattle.cycle_dst.specs.Grounds.{CombsOf, EdgesOf, machine_in}
use Rattle.cycle_dst.specs.Prints.{AllPrints}
use Rattle.cycle_dst.proofs.Inputs.{inputs}
use Rattle.cycle_dst.proofs.rows.run_processes.Goals as goal

pub invariant_of-circuit : goal.invariant_of-circuit
invariant_of-circuit c =
    let g = c.args.ground in
    record {
      runnable = c.requires.ground.runnable;
      few = c.requires.ground.few;
      combs_are = subst (λ cs. CombsOf g cs (machine_in g).combs) (sym c.as_slice-2.ensures) c.in_ok-combs.ensures;
      prints_are = subst (λ ps. AllPrints ps (machine_in g).combs) (sym c.as_slice-3.ensures) c.in_ok-prints.ensures;
      edges_are = subst (λ ks. EdgesOf g ks (machine_in g).edges) (sym c.as_slice-4.ensures) c.in_ok-edges.ensures;
      inputs_are = c.requires.inputs;
      inputs_whole = inputs g.design.now g.top.now c.requires.ground.keeps;
      initial_is = c.requires.ground.initial;
      start_is = c.requires.start;
      written_is = c.requires.written;
    }
