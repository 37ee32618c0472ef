use Rattle.target_flatten.specs.Owning.{AllOwn}
use Rattle.target_walk.specs.declared.never.Targets.{Targets}
use Rattle.case_targets.specs.Naming.{SpreadsTo, BareOf}
use Rattle.target_lower.specs.Roots.{IsInImage}
use Rattle.target_lower.proofs.Stepping.{ok-both}
use Rattle.target_lower.proofs.targets.targets.Goals as goal

pub returns : goal.returns
returns c =
    let e = c.args.e.now in
    let ps = c.args.indices.now in
    let root = c.root_of-root.result in
    let name = c.in_ok-name.name in
    ok-both (SpreadsTo root.bits e ps) (λ (x : Targets). AllOwn name root.bits x.writes × BareOf name ps x) (IsInImage c.args.names.now e ps) c.spread_target.result c.spread_target.ensures.writes
    (ok-both (λ (x : Targets). AllOwn name root.bits x.writes) (BareOf name ps) (λ (x : Targets). AllOwn name root.bits x.writes × BareOf name ps x) c.spread_target.result c.spread_target.ensures.own c.spread_target.ensures.plain
    (λ x own bare. (own, bare)))
    (λ x spreads h. record {
      root = root;
      root_is = c.root_of-root.ensures.root;
      name = name;
      name_is = c.in_ok-name.ensures;
      spreads = spreads;
      own = h.0;
      bare = h.1;
    })
