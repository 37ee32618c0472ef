use Rattle.std.proofs.Common.{◌+◌, take, sym, subst}
use Rattle.cycle_dst.specs.Grounds.{Made, CombsOf, combs_among}
use Rattle.cycle_dst.proofs.Collected.{comb-more, comb-none}
use Rattle.cycle_dst.proofs.Running.{where-ok}
use Rattle.cycle_dst.proofs.making.add_comb.Goals as goal

pub returns-in-None-clause-added : goal.returns-in-None-clause-added
returns-in-None-clause-added c =
    let g = c.args.ground in
    record { added = comb-none g c.requires.ground c.args.k c.args.combs.now c.requires.there (subst (Made g c.args.k) c.in-None.is c.in_ok-comb_of.ensures.made) }

pub returns-in-Some-clause-added : goal.returns-in-Some-clause-added
returns-in-Some-clause-added c =
    let g = c.args.ground in
    where-ok c.push.result
    (λ is. record {
      added = λ before.
          subst (λ cs. CombsOf g cs (combs_among g (take (c.args.k + 1) g.procs.now))) (sym is)
          (comb-more g c.requires.ground c.args.k c.args.combs.now c.in-Some.comb c.requires.there (subst (Made g c.args.k) c.in-Some.is c.in_ok-comb_of.ensures.made) before);
    })
    c.push.ensures.ok
